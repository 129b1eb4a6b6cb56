-- The one-thread orders of a schedule's run, written as a text: for each ring a line with its
-- number, and a line for each member of its order. And why a schedule has none.
use Rattle.std.specs.Prelude.{◌≡◌, ℕ, ◌-◌, ◌<◌, ◌≤◌, zero, suc, List, [], ◌++◌, length, map}
use Rattle.std.specs.Prelude.{flat_map, Some, Err, codes, decimal, replicate, slice_get}
use Rattle.scq_word.specs.declared.setup.Setup.{Setup}
use Rattle.scq_word.specs.Exports.{n_of}
use Rattle.scq_core.specs.declared.step.Step.{Step}
use Rattle.scq_core.specs.Machine.{Machine}
use Rattle.scq_law.specs.declared.ordered.Ordered.{Ordered}
use Rattle.scq_law.specs.declared.ordered.Ordered.TheVariants.{Opening, Call}
use Rattle.scq_law.specs.Exports.{run_of, last_state, IsFinishedRun, IsUnfinished, IsLinearization}
use Rattle.scq_law.specs.RunSteps.{Run}
use Rattle.scq_replay.specs.declared.replaying.ScheduleFault.{ScheduleFault}
use Rattle.scq_replay.specs.declared.replaying.ScheduleFault.TheVariants.{Unfinished}
use Rattle.scq_replay.specs.Printed.{reply_words}
use Rattle.scq_replay.specs.Replay.{HasSetup, Gives}
use Rattle.scq_replay.specs.Schedule.{turn_in}

-- the first line says this setup, and the others say these steps, one each
pub record SaysSteps (lines : List (List ℕ)) (c : Setup) (steps : List (ℕ × Step)) : Type 0 where
  pub rest : List (List ℕ)
  pub setup : HasSetup lines c rest
  pub each : map (turn_in c) rest ≡ map Some steps
  pub few : length steps ≤ 10000

-- the run of these steps: all opening contents are empty
abbrev pub schedule_run : Setup → List (ℕ × Step) → Run
schedule_run c steps = run_of c (replicate (n_of c.order) []) steps

-- the words of a member: `opening J`, or the seat, the number and the reply of a call that has
-- ended in this state
abbrev pub member_words : Machine → Ordered → List ℕ
member_words m (Opening j) = codes "opening " ++ decimal j
member_words m (Call seat number) =
    decimal seat ++ codes " " ++ decimal number
    ++ reply_words (slice_get (m.part seat).calls (number - 1))

abbrev pub member_line : Machine → Ordered → List ℕ
member_line m member = member_words m member ++ codes "\n"

-- the lines of a ring
abbrev pub ring_lines : Machine → ℕ → List Ordered → List ℕ
ring_lines m ring order =
    codes "ring " ++ decimal ring ++ codes "\n" ++ flat_map (member_line m) order

-- those of the first rings
abbrev pub rings_lines : Machine → (ℕ → List Ordered) → ℕ → List ℕ
rings_lines m orders zero = []
rings_lines m orders (suc ring) = rings_lines m orders ring ++ ring_lines m ring (orders ring)

-- the lines say a run in which every call has ended, and the text is that of the orders of its
-- rings
pub record IsOrderText (lines : List (List ℕ)) (text : List ℕ) : Type 0 where
  pub setup : Setup
  pub steps : List (ℕ × Step)
  pub says : SaysSteps lines setup steps
  pub finished : IsFinishedRun (schedule_run setup steps)
  pub orders : ℕ → List Ordered
  pub each : (ring : ℕ) → ring < setup.rings
      → IsLinearization (schedule_run setup steps) ring (orders ring)
  pub written : text ≡ rings_lines (last_state (schedule_run setup steps)) orders setup.rings

-- why lines have no orders: the first line with a fault; or, where there is none, the lowest seat
-- that is in the middle of a call after all steps
pub data HasNoOrders (lines : List (List ℕ)) : ScheduleFault → Type 0 where
  at_line : (fault : ScheduleFault) → Gives lines (Err fault) → HasNoOrders lines fault
  at_seat : (c : Setup) (steps : List (ℕ × Step)) (seat : ℕ) → SaysSteps lines c steps
      → IsUnfinished (schedule_run c steps) seat
      → HasNoOrders lines (Unfinished seat)
