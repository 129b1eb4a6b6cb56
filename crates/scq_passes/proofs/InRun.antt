-- Calls of a pass in the run, one behind the other.
use Rattle.std.proofs.Common.{◌≡◌, ◌⊎◌, inl, inr, refl, ◌∙◌, ap, subst, arith, suc, ℕ, List, [], ◌∷◌, ◌++◌, length}
use Rattle.std.proofs.lemmas.List.{length-append}
use Rattle.scq_word.specs.declared.setup.Setup.{Setup}
use Rattle.scq_core.specs.declared.ended.Ended.{Ended}
use Rattle.scq_core.specs.declared.ended.Ended.TheVariants.{Nothing}
use Rattle.scq_core.specs.declared.step.Step.{Step}
use Rattle.scq_law.specs.Exports.{IsPrefix, AllPrefixes, IsRecordAfter}
use Rattle.scq_law.proofs.Replays.RunPrefixes.{prefix_trans, prefix_shorter}
use Rattle.scq_band.specs.Exports.{Caller, EndsWith, IsCallInRun, Seen, with_run, Identity, opening_of}
use Rattle.scq_band.proofs.DelayedCalls.{call_delayed}
use Rattle.scq_queue.specs.Exports.{PassStanding, HeldStanding, HasGot, WasGivenBack, FoundNothing, caller_of}
use Rattle.scq_passes.specs.Exports.{MetTopicEmpty, HasOnlyCalled}

-- calls that stand in the run, and more of the same seat behind them, are calls in the run
pub calls-along : (c : Setup) (opening : List (List ℕ)) (old mid new : Caller) → mid.seat ≡ old.seat
    → IsCallInRun c opening old mid → IsCallInRun c opening mid new
    → IsCallInRun c opening old new
calls-along c opening old mid new same one more =
    let Its = λ (s : Seen). AllPrefixes s.runs more.before in
    let had = subst Its one.has_seen more.had_seen in
    let first : List (ℕ × Step) = (mid.seat, more.first) ∷ [] in
    let later : IsPrefix more.before more.after =
    prefix_trans more.before (more.before ++ first) more.after (prefix_shorter more.before first)
    more.begins in
    let grown : IsPrefix one.after more.after =
    prefix_trans one.after more.before more.after had.0 later in
    let begins =
    prefix_trans (one.before ++ (old.seat, one.first) ∷ []) one.after more.after one.begins grown in
    let now : IsRecordAfter c opening more.after old.seat new.calls =
    subst (λ (k : ℕ). IsRecordAfter c opening more.after k new.calls) same more.now in
    record {
      before = one.before;
      after = more.after;
      had_seen = one.had_seen;
      first = one.first;
      begins = begins;
      last = more.last;
      ends = subst (λ (k : ℕ). EndsWith (k, more.last) more.after) same more.ends;
      has_seen = more.has_seen ∙ ap (λ (s : Seen). with_run more.after s) one.has_seen;
      was = one.was;
      now = now;
      delayed = call_delayed c opening one.before more.after old.seat one.first old.calls new.calls
          begins one.was now;
    }

module _ {B : Type 0} {contents : B → List ℕ} {queue : Identity B} where
  -- one call, after which the pass is x but for what it has seen
  only-as : (x p q : PassStanding B) → q ≡ x → x.gates ≡ p.gates → x.gate ≡ p.gate
      → IsCallInRun queue.setup (opening_of contents queue.given) (caller_of p) (caller_of q)
      → HasOnlyCalled contents queue p q
  only-as x p q is gates gate run = record {
    in_run = run;
    gates = ap (λ (y : PassStanding B). y.gates) is ∙ gates;
    gate = ap (λ (y : PassStanding B). y.gate) is ∙ gate;
  }

  -- one call that got, gave back or found nothing
  pub only-got : (ring place : ℕ) (p q : PassStanding B) (h : HeldStanding B)
      → HasGot contents ring place p q h
      → IsCallInRun queue.setup (opening_of contents queue.given) (caller_of p) (caller_of q)
      → HasOnlyCalled contents queue p q
  only-got ring place p q h got run = only-as _ p q got.pass refl refl run

  pub only-back : (bytes : List ℕ) (index : ℕ) (p q : PassStanding B)
      → WasGivenBack bytes index p q
      → IsCallInRun queue.setup (opening_of contents queue.given) (caller_of p) (caller_of q)
      → HasOnlyCalled contents queue p q
  only-back bytes index p q back run = only-as _ p q back.pass refl refl run

  pub only-nothing : (ring head : ℕ) (p q : PassStanding B) → FoundNothing ring head p q
      → IsCallInRun queue.setup (opening_of contents queue.given) (caller_of p) (caller_of q)
      → HasOnlyCalled contents queue p q
  only-nothing ring head p q found run = only-as _ p q found.pass refl refl run

  -- calls behind calls
  pub only-along : (p q r : PassStanding B) → q.number ≡ p.number
      → HasOnlyCalled contents queue p q → HasOnlyCalled contents queue q r
      → HasOnlyCalled contents queue p r
  only-along p q r same one more = record {
    in_run = calls-along queue.setup _ _ _ _ same one.in_run more.in_run;
    gates = more.gates ∙ one.gates;
    gate = more.gate ∙ one.gate;
  }

  -- where it made none before, or some
  pub only-from : (p q r : PassStanding B) → q.number ≡ p.number
      → (q ≡ p) ⊎ HasOnlyCalled contents queue p q → HasOnlyCalled contents queue q r
      → HasOnlyCalled contents queue p r
  only-from p q r same before more = elim before [
    | inl none ↦ subst (λ (x : PassStanding B). HasOnlyCalled contents queue x r) none more
    | inr one ↦ only-along p q r same one more
  ]

  -- who found a topic empty made some
  pub only-found : (topic : ℕ) (p q : PassStanding B) → MetTopicEmpty topic p q
      → (q ≡ p) ⊎ HasOnlyCalled contents queue p q → HasOnlyCalled contents queue p q
  only-found topic p q found meanwhile = elim meanwhile [
    | inl none ↦
        let more = ap length found.calls in
        let same = ap (λ (x : PassStanding B). length x.calls) none in
        let front = p.calls ++ found.before in
        let last : List Ended = Nothing (suc topic) ∷ [] in
        absurd (omega (
          arith,
          more,
          same,
          length-append (front ++ last) found.after,
          length-append front last,
          length-append p.calls found.before,
        ))
    | inr one ↦ one
  ]
