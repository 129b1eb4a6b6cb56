-- The steps of a seat's calls lie on either side of each moment at which it rests. Plan: what a seat may have made rises with each of its
-- steps and never falls, and while it rests that is what its record says.
use Rattle.std.proofs.Common.{◌≡◌, ℕ, zero, suc, ◌+◌, ◌*◌, ◌<◌, ◌≤◌, List, length, take, sym, ◌∙◌, ap, inl, inr, arith, eq-eqb, ◌-◌}
use Rattle.std.specs.Prelude.{Option, Some, None, slice_get, unwrap_or}
use Rattle.std.proofs.Math.Seq.{take-append_seam}
use Rattle.std.proofs.lemmas.List.{length-append}
use Rattle.std.proofs.lemmas.Bool.{cases_lt}
use Rattle.std.proofs.lemmas.Option.{slice_get_within}
use Rattle.scq_core.specs.declared.ended.Ended.{Ended}
use Rattle.scq_core.specs.declared.step.Step.{Step}
use Rattle.scq_law.specs.Exports.{Recorded, recorded_after, recorded_of, recorded_first, IsRun, IsPrefix, IsRecordAfter, EndedBefore, IsStepOf}
use Rattle.scq_law.specs.Exports.{recorded_before, state_before, RestsAt, CallsApart}
use Rattle.scq_law.specs.RunSteps.{Run}
use Rattle.scq_law.proofs.Replays.RunLaws.{run_reaches}
use Rattle.scq_law.proofs.Replays.RunPrefixes.{prefix_trans}
use Rattle.scq_law.proofs.Retries.StepLaws.{most, steps_taken, steps_made, made_step}
use Rattle.scq_law.proofs.Order.RunStates.{moment_run, step_facts}
use Rattle.scq_law.proofs.Order.CallEnds.{calls_grow}

abbrev seat_of : Option (ℕ × Step) → ℕ
seat_of None = 0
seat_of (Some x) = x.0

same_seat : (o : Option (ℕ × Step)) (a b : ℕ) (s t : Step) → o ≡ Some (a, s) → o ≡ Some (b, t) → a ≡ b
same_seat o a b s t one other = ap seat_of (sym one ∙ other)

module _ (run : Run) (recorded : Recorded) (is_run : IsRun run.setup run.opening run.steps recorded) where
  abbrev made_at : ℕ → ℕ → ℕ
  made_at i k = steps_made run.setup ((state_before run i).part k)

  -- what a seat may have made does not fall
  made_next : (i k : ℕ) → i < length run.steps → made_at i k ≤ made_at (i + 1) k
  made_next i k low =
      let f = step_facts run recorded is_run i low in
      let reach = run_reaches run.setup run.opening (take i run.steps) (recorded_before run i) (moment_run run recorded is_run i) in
      let up = made_step run.setup (recorded_before run i) k f.seat f.step f.turn reach f.enabled in
      let is : made_at (i + 1) k ≡ steps_made run.setup ((recorded_after run.setup f.seat f.turn (recorded_before run i)).state.part k) =
      ap (λ (t : Recorded). steps_made run.setup (t.state.part k)) f.recorded in
      omega arith

  made_up : (d i k : ℕ) → i + d ≤ length run.steps → made_at i k ≤ made_at (i + d) k
  made_up zero i k within = let same : i + 0 ≡ i = omega arith in rw same (omega arith)
  made_up (suc d) i k within =
      let rest = made_up d i k (omega arith) in
      let next = made_next (i + d) k (omega arith) in
      let time : i + suc d ≡ i + d + 1 = omega arith in
      rw time (omega (arith, rest, next))

  -- and rises with its own step
  made_own : (i k : ℕ) (step : Step) → slice_get run.steps i ≡ Some (k, step) → made_at i k + 1 ≤ made_at (i + 1) k
  made_own i k step there =
      let low = slice_get_within run.steps i (k, step) there in
      let f = step_facts run recorded is_run i low in
      let reach = run_reaches run.setup run.opening (take i run.steps) (recorded_before run i) (moment_run run recorded is_run i) in
      let up = made_step run.setup (recorded_before run i) k f.seat f.step f.turn reach f.enabled in
      let seat : f.seat ≡ k = same_seat (slice_get run.steps i) f.seat k f.step step f.there there in
      let is : made_at (i + 1) k ≡ steps_made run.setup ((recorded_after run.setup f.seat f.turn (recorded_before run i)).state.part k) =
      ap (λ (t : Recorded). steps_made run.setup (t.state.part k)) f.recorded in
      let own : made_at i k + 1 ≤ steps_made run.setup ((recorded_after run.setup f.seat f.turn (recorded_before run i)).state.part k) =
      rw (eq-eqb f.seat k seat) at up in
      omega arith

  later_calls : (moment seat calls : ℕ) → RestsAt run moment seat calls → (i call : ℕ) → IsStepOf run i seat call → calls ≤ call → moment ≤ i
  later_calls moment seat calls rests i call is past =
      elim (cases_lt i moment) [
        | inl before ↦
            let p = (state_before run i).part seat in
            let q = (state_before run moment).part seat in
            let grow = calls_grow run recorded is_run i moment seat (omega arith) in
            let same : length q.calls ≡ length p.calls = let n = is.in_call in let m = rests.count in omega arith in
            let product : length q.calls * most run.setup ≡ length p.calls * most run.setup = ap (λ (n : ℕ). n * most run.setup) same in
            let none : made_at moment seat ≡ length q.calls * most run.setup + 0 =
            ap (λ ph. length q.calls * most run.setup + steps_taken run.setup ph) rests.idle in
            let own = made_own i seat is.step is.there in
            let gap : i + 1 + (moment - (i + 1)) ≡ moment = omega arith in
            let up : made_at (i + 1) seat ≤ made_at moment seat = rw gap at (made_up (moment - (i + 1)) (i + 1) seat (let w = rests.within in omega arith)) in
            absurd (omega arith)
        | inr after ↦ after
      ]

  earlier_calls : (moment seat calls : ℕ) → RestsAt run moment seat calls → (i call : ℕ) → IsStepOf run i seat call → call < calls → i < moment
  earlier_calls moment seat calls rests i call is within =
      elim (cases_lt i moment) [
        | inl before ↦ before
        | inr after ↦
            let grow = calls_grow run recorded is_run moment i seat after in
            let n = is.in_call in
            let m = rests.count in
            absurd (omega arith)
      ]

pub calls_apart : (run : Run) (recorded : Recorded) → IsRun run.setup run.opening run.steps recorded → (moment seat calls : ℕ)
    → RestsAt run moment seat calls → CallsApart run moment seat calls
calls_apart run recorded is_run moment seat calls rests =
    record { earlier = earlier_calls run recorded is_run moment seat calls rests; later = later_calls run recorded is_run moment seat calls rests }

-- where a seat rested after the first steps of a run
pub rested_at : (run : Run) (short : List (ℕ × Step)) (seat : ℕ) (calls : List Ended) → IsPrefix short run.steps
    → IsRecordAfter run.setup run.opening short seat calls → RestsAt run (length short) seat (length calls)
rested_at run short seat calls one was =
    let long : length run.steps ≡ length short + length one.more = ap length one.is ∙ length-append short one.more in
    let cut : take (length short) run.steps ≡ short = ap (take (length short)) one.is ∙ take-append_seam short one.more in
    let found : recorded_of run.setup run.opening (take (length short) run.steps) ≡ Some was.recorded =
    ap (recorded_of run.setup run.opening) cut ∙ was.is_run.recorded_is in
    let is : recorded_before run (length short) ≡ was.recorded =
    ap (λ (o : Option Recorded). unwrap_or o (recorded_first run.setup run.opening)) found in
    record {
      within = omega arith;
      idle = ap (λ (t : Recorded). (t.state.part seat).phase) is ∙ was.idle;
      count = ap (λ (t : Recorded). length (t.state.part seat).calls) is ∙ ap length was.calls_are;
    }

-- a call that had ended in the first steps was made before one that began after more of them
pub seen_first : (run : Run) (recorded : Recorded) (seen begun : List (ℕ × Step)) (seat k : ℕ) (calls others : List Ended) (call x : ℕ)
    → IsRun run.setup run.opening run.steps recorded → IsPrefix seen begun → IsPrefix begun run.steps → IsRecordAfter run.setup run.opening seen seat calls
    → call < length calls → IsRecordAfter run.setup run.opening begun k others → length others ≤ x → EndedBefore run seat call k x
seen_first run recorded seen begun seat k calls others call x is_run one other was ended since starts i j first second =
    let one_rests = rested_at run seen seat calls (prefix_trans seen begun run.steps one other) was in
    let other_rests = rested_at run begun k others other since in
    let before = (calls_apart run recorded is_run (length seen) seat (length calls) one_rests).earlier i call first ended in
    let later = (calls_apart run recorded is_run (length begun) k (length others) other_rests).later j x second starts in
    let longer : length begun ≡ length seen + length one.more = ap length one.is ∙ length-append seen one.more in
    omega arith
