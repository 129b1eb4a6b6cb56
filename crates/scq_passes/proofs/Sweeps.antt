-- Sweeps, from the takes that they are made of.
use Rattle.std.proofs.Common.{◌≡◌, sym, ◌∙◌, ap, arith, zero, suc, ℕ, ◌<◌, List, [], ◌∷◌, ◌++◌, length, false, Some, append_assoc}
use Rattle.std.specs.Prelude.{◌==◌}
use Rattle.std.proofs.lemmas.List.{append-nil}
use Rattle.scq_core.specs.declared.ended.Ended.{Ended}
use Rattle.scq_core.specs.declared.ended.Ended.TheVariants.{Nothing}
use Rattle.scq_queue.specs.Exports.{takes_of, PassStanding, after_look, having_seen, caller_of}
use Rattle.scq_band.specs.Exports.{opening_of, IsReadingInRun, Identity}
use Rattle.scq_queue.proofs.Records.{takes-append}
use Rattle.scq_passes.specs.Exports.{Puts, TookNothing, MetTopicEmpty, HasOnlyCalled, IsSweep, HasEmptiedAll, TookMore, HasTakenFollowed}
use Rattle.scq_passes.proofs.Kept.{taken-calls}

module _ {B : Type 0} where
  -- the topic was found empty just now
  pub found-now : (topic : ℕ) (p q : PassStanding B) → q.calls ≡ p.calls ++ Nothing (suc topic) ∷ [] → MetTopicEmpty topic p q
  found-now topic p q is = record {
    before = [];
    after = [];
    calls = is ∙ ap (λ (l : List Ended). l ++ Nothing (suc topic) ∷ []) (sym (append-nil p.calls))
        ∙ sym (append-nil ((p.calls ++ []) ++ Nothing (suc topic) ∷ []));
  }

  -- no take is in that
  pub found-takes : (topic : ℕ) (p q : PassStanding B) → q.calls ≡ p.calls ++ Nothing (suc topic) ∷ [] → TookNothing p q
  found-takes topic p q is = ap takes_of is ∙ takes-append p.calls (Nothing (suc topic) ∷ []) ∙ append-nil (takes_of p.calls)

  -- so it was also where more was taken before, or since
  pub found-later : {By : Puts} (topic : ℕ) (p q r : PassStanding B) → MetTopicEmpty topic p q → HasTakenFollowed By q r → MetTopicEmpty topic p r
  found-later topic p q r found more = record {
    before = found.before;
    after = found.after ++ more.block;
    calls = taken-calls q r more ∙ ap (λ (l : List Ended). l ++ more.block) found.calls
        ∙ append_assoc ((p.calls ++ found.before) ++ Nothing (suc topic) ∷ []) found.after more.block;
  }

  pub found-earlier : {By : Puts} (topic : ℕ) (p q r : PassStanding B) → HasTakenFollowed By p q → MetTopicEmpty topic q r → MetTopicEmpty topic p r
  found-earlier topic p q r more found = record {
    before = more.block ++ found.before;
    after = found.after;
    calls = found.calls ∙ ap (λ (l : List Ended). ((l ++ found.before) ++ Nothing (suc topic) ∷ []) ++ found.after) (taken-calls p q more)
        ∙ ap (λ (l : List Ended). (l ++ Nothing (suc topic) ∷ []) ++ found.after) (append_assoc p.calls more.block found.before);
  }

  -- the pass asked, and then took from each topic until it was empty
  pub sweep-of : {contents : B → List ℕ} {queue : Identity B} {By : Puts} (topics found : ℕ) (p looked q : PassStanding B)
      → looked ≡ having_seen looked.seen (after_look found p)
      → ((n : ℕ) → looked.gate ≡ Some n → IsReadingInRun queue.setup (opening_of contents queue.given) p.retired (caller_of p) (caller_of looked) n)
      → HasTakenFollowed By looked q → HasOnlyCalled contents queue looked q
      → HasEmptiedAll topics looked q → IsSweep contents queue By topics found p q
  sweep-of topics found p looked q is reading taken only emptied = record {
    asked = looked;
    answer = is;
    reading = reading found (ap (λ (x : PassStanding B). x.gate) is);
    taken = taken;
    only = only;
    empty = emptied.found;
    once = emptied.vain;
    last = emptied.last;
  }

  -- it took nothing since it was about to ask, or something
  pub took-nothing : (found : ℕ) (p looked q : PassStanding B) → looked ≡ having_seen looked.seen (after_look found p)
      → TookNothing looked q → TookNothing p q
  took-nothing found p looked q is none = none ∙ ap (λ (x : PassStanding B). takes_of x.calls) is

  pub took-some : (found : ℕ) (p looked q : PassStanding B) → looked ≡ having_seen looked.seen (after_look found p)
      → TookMore looked q → TookNothing p q → ⊥
  took-some found p looked q is more none =
      let same = ap (λ (x : PassStanding B). length (takes_of x.calls)) is in
      omega (arith, more, ap length none, same)

-- not all had retired
pub some-left : (found : ℕ) → (found == 0) ≡ false → 0 < found
some-left zero is = absurd (cc)
some-left (suc n) is = omega arith
