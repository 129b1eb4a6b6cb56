use Rattle.std.proofs.Common.{◌≡◌, ℕ, List, [], ◌∷◌, ◌∙◌, ap, subst}
use Rattle.std.specs.Prelude.{Result, Ok, Err, Some, IfOk, IfErr}
use Rattle.scq_band.specs.Exports.{opening_of, IsCallInRun, Identity}
use Rattle.scq_queue.specs.Exports.{PassStanding, HeldStanding, having_seen, caller_of, CameOff, FoundTopicEmpty, GetWasSpent}
use Rattle.scq_queue.specs.HoldsJust.{HoldsJust}
use Rattle.scq_queue.specs.declared.calls.TakeRefusal.{TakeRefusal}
use Rattle.scq_queue.specs.declared.calls.TakeRefusal.TheVariants.{Empty, Spent}
use Rattle.scq_queue.proofs.HeldOnce.{holds_more, holds_same, take_refused}
use Rattle.example_queue.proofs.marks.taken_behind.Goals as goal

module _ {B : Type 0} (queue : Identity B) (old new : PassStanding B) where
  -- who heeded a mark holds what it held
  heeded : (seen : _) → HoldsJust queue old [] → new ≡ having_seen seen old → HoldsJust queue new []
  heeded seen before is =
      holds_same queue old new [] before
      (record {
        queue = ap (λ (p : PassStanding B). p.queue) is;
        number = ap (λ (p : PassStanding B). p.number) is;
        held = ap (λ (p : PassStanding B). p.held) is;
        retired = ap (λ (p : PassStanding B). p.retired) is;
      })

  -- what a take leaves
  holds_taken : (contents : B → List ℕ) (IsSame : B → B → Type 0) (r : Result (ℕ × HeldStanding B) TakeRefusal) → HoldsJust queue old []
      → IfOk r (λ v. CameOff contents IsSame queue 1 v.0 old new v.1) → IfOk r (λ v. HoldsJust queue new (v.1 ∷ []))
  holds_taken contents IsSame (Ok v) before took = holds_more before took.got
  holds_taken contents IsSame (Err e) before took = tt

  holds_none : (contents : B → List ℕ) (r : Result (ℕ × HeldStanding B) TakeRefusal) → HoldsJust queue old []
      → ((head : ℕ) → r ≡ Err (Empty head) → FoundTopicEmpty contents queue 0 head old new)
      → ((ticket : ℕ) → r ≡ Err (Spent ticket) → GetWasSpent queue 1 ticket old new)
      → ((ticket : ℕ) → old.spent ≡ Some ticket → (r ≡ Err (Spent ticket)) × (new ≡ old))
      → IfErr r (λ e. HoldsJust queue new [])
  holds_none contents (Ok v) before empty spent kept = tt
  holds_none contents (Err e) before empty spent kept = holds_same queue old new [] before (take_refused old new kept 0 e empty spent)

pub returns-clause-took : goal.returns-clause-took
returns-clause-took g c =
    holds_taken c.args.queue.now c.heed.new.pass c.take.new.pass g.B.Buffer.contents g.B.Buffer.IsSameBuffer c.take.result
    (heeded c.args.queue.now c.args.pass.now c.heed.new.pass _ c.requires.pass c.heed.ensures) c.take.ensures.took

pub returns-clause-refused : goal.returns-clause-refused
returns-clause-refused g c =
    holds_none c.args.queue.now c.heed.new.pass c.take.new.pass g.B.Buffer.contents c.take.result
    (heeded c.args.queue.now c.args.pass.now c.heed.new.pass _ c.requires.pass c.heed.ensures) c.take.ensures.empty c.take.ensures.spent
    c.take.ensures.kept

pub returns-clause-behind : goal.returns-clause-behind
returns-clause-behind g c none =
    let opening = opening_of g.B.Buffer.contents c.args.queue.now.given in
    subst (λ (p : PassStanding g.row.B.Denot). IsCallInRun c.args.queue.now.setup opening (caller_of p) (caller_of c.take.new.pass)) c.heed.ensures
    (c.take.ensures.run (ap (λ (p : PassStanding g.row.B.Denot). p.spent) c.heed.ensures ∙ none))
