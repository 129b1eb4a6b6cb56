-- What the private calls of a schedule's orders keep.
use Rattle.std.specs.Prelude.{◌≡◌, ℕ, ◌<◌, List, [], ◌∷◌, ◌++◌, Some}
use Rattle.scq_word.specs.declared.setup.Setup.{Setup}
use Rattle.scq_core.specs.declared.step.Step.{Step}
use Rattle.scq_core.specs.Exports.{machine_of, step_of}
use Rattle.scq_law.specs.declared.ordered.Ordered.{Ordered}
use Rattle.scq_law.specs.declared.ordered.Ordered.TheVariants.{Opening, Call}
use Rattle.scq_law.specs.Exports.{Recorded, IsRun}
use Rattle.scq_law.specs.RunSteps.{Run}
use Rattle.scq_replay.specs.declared.ordering.Schedule.{Schedule}
use Rattle.scq_replay.specs.OrderText.{SaysSteps, schedule_run}
use Rattle.scq_replay.specs.Replay.{turn_of_line}

-- the run of a schedule's steps
abbrev pub run_of_schedule : Schedule → Run
run_of_schedule s = schedule_run s.state.setup s.steps.items

-- its steps are a run, which leads to its state
pub record ScheduleLeads (s : Schedule) : Type 0 where
  pub recorded : Recorded
  pub is_run : let run = run_of_schedule s in IsRun run.setup run.opening run.steps recorded
  pub state : machine_of s.state ≡ recorded.state

-- that is the run of the steps that the lines say
pub record IsScheduleOf (lines : List (List ℕ)) (s : Schedule) : Type 0 where
  pub says : SaysSteps lines s.state.setup s.steps.items
  pub leads : ScheduleLeads s

-- the line of this number says a step that leads from the one state to the other, and it was added
pub record IsAdded (c : Setup) (number : ℕ) (line : List ℕ) (old new : Schedule) : Type 0 where
  pub turn : ℕ × Step
  pub says : turn_of_line c number line ≡ Some turn
  pub seat : turn.0 < c.seats
  pub leads : step_of c (machine_of old.state) turn.0 turn.1 ≡ Some (machine_of new.state)
  pub adds : new.steps.items ≡ old.steps.items ++ turn ∷ []

-- a call has a seat of the setup and a number from 1
abbrev pub IsNumberedCall : Setup → Ordered → Type 0
IsNumberedCall c (Opening j) = Unit {0}
IsNumberedCall c (Call seat number) = (seat < c.seats) × (0 < number)
