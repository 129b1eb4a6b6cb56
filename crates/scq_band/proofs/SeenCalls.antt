-- A call that had ended in a run that was seen comes first: that run is a prefix of the run before the other call.
use Rattle.std.proofs.Common.{◌≡◌, ℕ, zero, suc, ◌+◌, ◌<◌, ◌≤◌, List, [], ◌∷◌, ◌++◌, length, take, refl, ◌∙◌, ap, subst, inl, inr, arith}
use Rattle.std.specs.Prelude.{Option, Some, slice_index_or, unwrap_or}
use Rattle.std.proofs.Math.Seq.{take-append_seam}
use Rattle.std.proofs.lemmas.List.{length-append}
use Rattle.std.proofs.lemmas.Bool.{cases_lt}
use Rattle.scq_law.specs.Exports.{Recorded, recorded_of, recorded_first, IsRun, EndedBefore, IsStepOf, recorded_before, IsPrefix, AllPrefixes, run_of}
use Rattle.scq_law.specs.RunSteps.{Run}
use Rattle.scq_law.proofs.Order.CallEnds.{calls_grow}
use Rattle.std.specs.List.{Contains}
use Rattle.scq_core.specs.declared.step.Step.{Step}
use Rattle.scq_law.proofs.Order.CallSpans.{seen_first, calls_apart, rested_at}
use Rattle.scq_law.proofs.Replays.RunPrefixes.{prefix_trans}
use Rattle.scq_band.specs.Exports.{EachSeenCallComesFirst, EachCallInARunSeenComesFirst}

-- each of these lists is a prefix
pub among : (ps : List (List (ℕ × Step))) (p steps : List (ℕ × Step)) → AllPrefixes ps steps → Contains ps p → IsPrefix p steps
among ps p steps all has = at ps has.0 all has.1 has.2
  where
    at : (qs : List (List (ℕ × Step))) (k : ℕ) → AllPrefixes qs steps → k < length qs → slice_index_or qs k p ≡ p → IsPrefix p steps
    at [] k each low is = absurd (omega arith)
    at (q ∷ qs) zero each low is = subst (λ (l : List (ℕ × Step)). IsPrefix l steps) is each.0
    at (q ∷ qs) (suc k) each low is = at qs k each.1 (omega (arith, low)) is

pub seen_comes_first : EachSeenCallComesFirst
seen_comes_first c opening callers a now b later all one other more seen within =
    let run = run_of c opening all.steps in
    let begun : IsPrefix other.before other.after =
    let step : List (ℕ × Step) = (b.seat, other.first) ∷ [] in
    prefix_trans other.before (other.before ++ step) other.after (record { more = step; is = refl }) other.begins in
    let whole = prefix_trans other.before other.after all.steps begun within in
    let ended = seen_first run all.finished.recorded one.after other.before a.seat b.seat now.calls b.calls (length a.calls) (length b.calls)
    all.finished.is_run (among b.seen.runs one.after other.before other.had_seen seen) whole one.now (omega (arith, more)) other.was (omega arith) in
    record {
      ended = ended;
      in_order = λ r order i j is at_i at_j. is.real_time i j a.seat (length a.calls) b.seat (length b.calls) at_i at_j ended;
    }

-- a call that stands in a seat's record after the first steps was made in these
made_before : (run : Run) (recorded : Recorded) → IsRun run.setup run.opening run.steps recorded → (short : List (ℕ × Step)) (then_recorded : Recorded)
    → IsPrefix short run.steps → IsRun run.setup run.opening short then_recorded → (seat call : ℕ)
    → call + 1 ≤ length (then_recorded.state.part seat).calls → (i : ℕ) → IsStepOf run i seat call → i < length short
made_before run recorded is_run short then_recorded one was seat call made i is =
    elim (cases_lt i (length short)) [
      | inl before ↦ before
      | inr after ↦
          let cut : take (length short) run.steps ≡ short = ap (take (length short)) one.is ∙ take-append_seam short one.more in
          let found : recorded_of run.setup run.opening (take (length short) run.steps) ≡ Some then_recorded =
          ap (recorded_of run.setup run.opening) cut ∙ was.recorded_is in
          let at : recorded_before run (length short) ≡ then_recorded =
          ap (λ (o : Option Recorded). unwrap_or o (recorded_first run.setup run.opening)) found in
          let count : length ((recorded_before run (length short)).state.part seat).calls ≡ length (then_recorded.state.part seat).calls =
          ap (λ (t : Recorded). length (t.state.part seat).calls) at in
          let grow = calls_grow run recorded is_run (length short) i seat after in
          let n = is.in_call in
          absurd (omega (arith, count, grow, n, made))
    ]

pub any_seen_comes_first : EachCallInARunSeenComesFirst
unfolding among
any_seen_comes_first c opening callers b later seat call all other seen within =
    let run = run_of c opening all.steps in
    let begun : IsPrefix other.before other.after =
    let step : List (ℕ × Step) = (b.seat, other.first) ∷ [] in
    prefix_trans other.before (other.before ++ step) other.after (record { more = step; is = refl }) other.begins in
    let whole = prefix_trans other.before other.after all.steps begun within in
    let one = among b.seen.runs seen.steps other.before other.had_seen seen.among in
    let rests = rested_at run other.before b.seat b.calls whole other.was in
    let ended : EndedBefore run seat call b.seat (length b.calls) =
    λ i j first second.
    let low = made_before run all.finished.recorded all.finished.is_run seen.steps seen.recorded
    (prefix_trans seen.steps other.before all.steps one whole) seen.is_run seat call seen.made i first in
    let high = (calls_apart run all.finished.recorded all.finished.is_run (length other.before) b.seat (length b.calls) rests).later j (length b.calls) second (omega arith) in
    let longer : length other.before ≡ length seen.steps + length one.more = ap length one.is ∙ length-append seen.steps one.more in
    omega (arith, low, high, longer) in
    record {
      ended = ended;
      in_order = λ r order i j is at_i at_j. is.real_time i j seat call b.seat (length b.calls) at_i at_j ended;
    }
