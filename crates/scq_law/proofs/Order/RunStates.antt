-- A run step by step, with its ghost: what is known of each step of a run, and that its states are those of a trace.
use Rattle.std.proofs.Common.{◌≡◌, ℕ, zero, suc, ◌+◌, ◌<◌, ◌≤◌, List, [], ◌∷◌, ◌++◌, length, take, drop, get_or, refl, sym, ◌∙◌, ap, subst, arith}
use Rattle.std.specs.Prelude.{Option, Some, slice_get, unwrap_or}
use Rattle.std.specs.Option.{option_and_then}
use Rattle.std.proofs.lemmas.List.{take-append-drop}
use Rattle.std.proofs.lemmas.Option.{slice_get-get_or}
use Rattle.std.proofs.lemmas.List.Elements.{All-take}
use Rattle.scq_core.specs.declared.phase.Phase.{Phase}
use Rattle.scq_core.specs.declared.phase.Phase.TheVariants.{Idle}
use Rattle.scq_core.specs.declared.step.Step.{Step}
use Rattle.scq_core.specs.declared.step.Step.TheVariants.{D2}
use Rattle.scq_core.specs.Exports.{turn_of, moved}
use Rattle.scq_law.specs.Exports.{Recorded, recorded_after, recorded_by, recorded_first, recorded_along, recorded_of, IsRun, recorded_before}
use Rattle.scq_law.specs.Exports.{state_before}
use Rattle.scq_law.proofs.Base.Ghosts.{Ghost, start_ghost}
use Rattle.scq_law.proofs.Base.Traces.{Trace, trace_start, trace_step, event_of, ghost_after}
use Rattle.scq_law.proofs.Base.Based.{based}
use Rattle.scq_law.proofs.Base.EventSteps.{EventStep, event_step, ghost_next}
use Rattle.scq_law.proofs.Replays.RecordedRuns.{RecordedStep, recorded_step, chained}
use Rattle.scq_law.proofs.Replays.StepsRecorded.{more}
use Rattle.scq_law.proofs.Replays.LongerRuns.{along_last}
use Rattle.scq_law.proofs.Replays.RisingWords.{recorded_along-append}
use Rattle.scq_law.specs.RunSteps.{Run}

abbrev pub item_at : Run → ℕ → ℕ × Step
item_at run i = get_or run.steps i (0, D2)

abbrev pub turn_in_run : Run → ℕ → Phase
turn_in_run run i = unwrap_or (turn_of run.setup ((state_before run i).part (item_at run i).0) (item_at run i).1) Idle

-- what became of each ticket before step i
abbrev pub ghost_before : Run → ℕ → Ghost
ghost_before run zero = start_ghost run.setup run.opening
ghost_before run (suc i) = ghost_after run.setup (state_before run i) i (item_at run i).0 (turn_in_run run i) (ghost_before run i)

-- what is known of step i
pub record StepFacts (run : Run) (i : ℕ) : Type 0 where
  pub seat : ℕ
  pub step : Step
  pub turn : Phase
  pub there : slice_get run.steps i ≡ Some (seat, step)
  pub low : seat < run.setup.seats
  pub enabled : turn_of run.setup ((state_before run i).part seat) step ≡ Some turn
  pub recorded : recorded_before run (i + 1) ≡ recorded_after run.setup seat turn (recorded_before run i)
  pub trace : Trace run.setup i (ghost_before run i) (state_before run i)
  pub ghost : ghost_before run (i + 1) ≡ ghost_next i (ghost_before run i) (state_before run i) seat (event_of run.setup (state_before run i) turn)
  pub event : EventStep run.setup i (ghost_before run i) (state_before run i) seat (event_of run.setup (state_before run i) turn) (state_before run (i + 1))

-- a default plays no part within a list
pub get_or_any : {A : Type 0} (xs : List A) (i : ℕ) (d e : A) → i < length xs → get_or xs i d ≡ get_or xs i e
get_or_any xs i d e low =
    let same : Some (get_or xs i d) ≡ Some (get_or xs i e) = sym (slice_get-get_or xs i d low) ∙ slice_get-get_or xs i e low in cc

-- before the first step there is the start
first : (run : Run) → recorded_before run 0 ≡ recorded_first run.setup run.opening
first run = refl

step_is : (run : Run) (i : ℕ) {t : Recorded} → recorded_before run (i + 1) ≡ t → recorded_before run (suc i) ≡ t
step_is run i is = let time : suc i ≡ i + 1 = omega arith in rw time is

module _ (run : Run) (recorded : Recorded) (is_run : IsRun run.setup run.opening run.steps recorded) where
  -- the first steps of a run are one
  pub moment : (i : ℕ) → recorded_of run.setup run.opening (take i run.steps) ≡ Some (recorded_before run i)
  moment i =
      let cut : recorded_of run.setup run.opening (take i run.steps ++ drop i run.steps) ≡ Some recorded =
      ap (λ (xs : List (ℕ × Step)). recorded_of run.setup run.opening xs) (take-append-drop i run.steps) ∙ is_run.recorded_is in
      let two = chained (λ t. recorded_along run.setup t (drop i run.steps)) (recorded_of run.setup run.opening (take i run.steps)) recorded
      (sym (recorded_along-append run.setup (take i run.steps) (drop i run.steps) (recorded_first run.setup run.opening)) ∙ cut) in
      let is : recorded_of run.setup run.opening (take i run.steps) ≡ Some two.0 = two.1 in
      is ∙ ap Some (sym (ap (λ (o : Option Recorded). unwrap_or o (recorded_first run.setup run.opening)) is))

  pub moment_run : (i : ℕ) → IsRun run.setup run.opening (take i run.steps) (recorded_before run i)
  moment_run i =
      record { full = is_run.full; seats = All-take (λ (x : ℕ × Step). x.0 < run.setup.seats) i run.steps is_run.seats; recorded_is = moment i }

  -- and the next step is enabled after them
  next : (i : ℕ) → i < length run.steps → RecordedStep run.setup (recorded_before run i) (item_at run i) (recorded_before run (i + 1))
  next i low =
      let x = item_at run i in
      let longer : recorded_of run.setup run.opening (take i run.steps ++ x ∷ []) ≡ Some (recorded_before run (i + 1)) =
      sym (ap (λ (xs : List (ℕ × Step)). recorded_of run.setup run.opening xs) (more run.steps i x low (get_or_any run.steps i (0, D2) x low)))
      ∙ moment (i + 1) in
      let after : option_and_then (λ last. recorded_by run.setup last x) (recorded_of run.setup run.opening (take i run.steps))
      ≡ Some (recorded_before run (i + 1)) =
      sym (along_last run.setup (recorded_first run.setup run.opening) (take i run.steps) x) ∙ longer in
      let by : recorded_by run.setup (recorded_before run i) x ≡ Some (recorded_before run (i + 1)) =
      sym (ap (λ (o : Option Recorded). option_and_then (λ last. recorded_by run.setup last x) o) (moment i)) ∙ after in
      recorded_step run.setup (recorded_before run i) x (recorded_before run (i + 1)) by

  turn_is : (i : ℕ) (low : i < length run.steps) → turn_in_run run i ≡ (next i low).turn
  turn_is i low = ap (λ (o : Option Phase). unwrap_or o Idle) (next i low).enabled

  -- its states are those of a trace
  pub traced : (i : ℕ) → i ≤ length run.steps → Trace run.setup i (ghost_before run i) (state_before run i)
  traced zero within =
      subst (λ (t : Recorded). Trace run.setup 0 (start_ghost run.setup run.opening) t.state) (sym (first run)) (trace_start run.opening is_run.full)
  traced (suc i) within =
      let low : i < length run.steps = omega arith in
      let s = next i low in
      let before = traced i (omega arith) in
      let seat_low : (item_at run i).0 < run.setup.seats = is_run.seats i (0, D2) low in
      let one = trace_step (item_at run i).0 (item_at run i).1 s.turn before seat_low s.enabled in
      let states : state_before run (suc i) ≡ moved run.setup (state_before run i) (item_at run i).0 s.turn =
      ap (λ (t : Recorded). t.state) (step_is run i s.is) in
      let ghosts : ghost_before run (suc i) ≡ ghost_after run.setup (state_before run i) i (item_at run i).0 s.turn (ghost_before run i) =
      ap (λ (t : Phase). ghost_after run.setup (state_before run i) i (item_at run i).0 t (ghost_before run i)) (turn_is i low) in
      let time : suc i ≡ i + 1 = omega arith in
      rw (states, ghosts, time) one

  pub step_facts : (i : ℕ) → i < length run.steps → StepFacts run i
  step_facts i low =
      let s = next i low in
      let c = run.setup in
      let k = (item_at run i).0 in
      let trace = traced i (omega arith) in
      let seat_low : k < c.seats = is_run.seats i (0, D2) low in
      let states : state_before run (i + 1) ≡ moved c (state_before run i) k s.turn = ap (λ (t : Recorded). t.state) s.is in
      let time : i + 1 ≡ suc i = omega arith in
      let event = event_step c i (ghost_before run i) (state_before run i) k (item_at run i).1 s.turn seat_low s.enabled
      (based c i (ghost_before run i) (state_before run i) trace) in
      record {
        seat = k;
        step = (item_at run i).1;
        turn = s.turn;
        there = slice_get-get_or run.steps i (0, D2) low;
        low = seat_low;
        enabled = s.enabled;
        recorded = s.is;
        trace = trace;
        ghost = rw time (ap (λ (t : Phase). ghost_after c (state_before run i) i k t (ghost_before run i)) (turn_is i low));
        event = rw states event;
      }
