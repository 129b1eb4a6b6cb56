-- A run step by step. Steps are numbered from 0: what is recorded before each, and which turn of
-- which seat it is. Calls of a seat are numbered from 0 as its record has them; the one that it is
-- in the middle of has the number of those that have ended.
use Rattle.std.specs.Prelude.{◌≡◌, ◌≢◌, ℕ, ◌<◌, List, length, take, Some, slice_get, unwrap_or}
use Rattle.scq_word.specs.declared.setup.Setup.{Setup}
use Rattle.scq_core.specs.declared.ended.Ended.{Ended}
use Rattle.scq_core.specs.declared.phase.Phase.{Phase}
use Rattle.scq_core.specs.declared.phase.Phase.TheVariants.{Idle, AtE1, AtD2}
use Rattle.scq_core.specs.declared.step.Step.{Step}
use Rattle.scq_core.specs.Machine.{Machine}
use Rattle.scq_core.specs.Exports.{turn_of}
use Rattle.scq_law.specs.Run.{Recorded, recorded_of, recorded_first, IsRun}
use Rattle.scq_law.specs.Places.{AllIdle}

-- what is run: steps from the start of a setup, with these contents in ring 0
pub record Run : Type 0 where
  pub setup : Setup
  pub opening : List (List ℕ)
  pub steps : List (ℕ × Step)

abbrev pub run_of : Setup → List (List ℕ) → List (ℕ × Step) → Run
run_of c opening steps = record { setup = c; opening = opening; steps = steps }

-- what is recorded of the steps before step i. Where they are no run, which is never asked, it is
-- what is recorded of none
abbrev pub recorded_before : Run → ℕ → Recorded
recorded_before run i =
    unwrap_or (recorded_of run.setup run.opening (take i run.steps))
    (recorded_first run.setup run.opening)

-- the state before step i
abbrev pub state_before : Run → ℕ → Machine
state_before run i = (recorded_before run i).state

-- what is recorded of all steps, and the state in which they end
abbrev pub recorded_last : Run → Recorded
recorded_last run = recorded_before run (length run.steps)

abbrev pub last_state : Run → Machine
last_state run = (recorded_last run).state

-- the steps are a run, and every call has ended
pub record IsFinishedRun (run : Run) : Type 0 where
  pub recorded : Recorded
  pub is_run : IsRun run.setup run.opening run.steps recorded
  pub idle : AllIdle run.setup recorded.state

-- step i is this turn of this seat
pub record Makes (run : Run) (i seat : ℕ) (turn : Phase) : Type 0 where
  pub step : Step
  pub there : slice_get run.steps i ≡ Some (seat, step)
  pub enabled : turn_of run.setup ((state_before run i).part seat) step ≡ Some turn

-- step i is one of the seat's call of this number
pub record IsStepOf (run : Run) (i seat call : ℕ) : Type 0 where
  pub step : Step
  pub there : slice_get run.steps i ≡ Some (seat, step)
  pub in_call : length ((state_before run i).part seat).calls ≡ call

-- the seat's call of this number has ended so
abbrev pub HasEnded : Run → ℕ → ℕ → Ended → Type 0
HasEnded run seat call ended = slice_get ((last_state run).part seat).calls call ≡ Some ended

-- step i is the E1 of this seat that drew the ticket p of ring r, which is below the limit
pub record DrawsPut (run : Run) (i seat r p : ℕ) : Type 0 where
  pub index : ℕ
  pub content : List ℕ
  pub least : ℕ
  pub makes : Makes run i seat (AtE1 r index content least)
  pub found : (state_before run i).cells.tail r ≡ p
  pub low : p < run.setup.limit

-- step i is the D2 of this seat that did
pub record DrawsGet (run : Run) (i seat r p : ℕ) : Type 0 where
  pub least : ℕ
  pub makes : Makes run i seat (AtD2 r least)
  pub found : (state_before run i).cells.head r ≡ p
  pub low : p < run.setup.limit

-- this seat is the lowest that is in the middle of a call
pub record IsLowestBusy (c : Setup) (m : Machine) (seat : ℕ) : Type 0 where
  pub low : seat < c.seats
  pub busy : (m.part seat).phase ≢ Idle
  pub lowest : (k : ℕ) → k < seat → (m.part k).phase ≡ Idle

-- the steps are a run, after which some call is under way, and this seat is the lowest that has one
pub record IsUnfinished (run : Run) (seat : ℕ) : Type 0 where
  pub recorded : Recorded
  pub is_run : IsRun run.setup run.opening run.steps recorded
  pub lowest_busy : IsLowestBusy run.setup recorded.state seat
