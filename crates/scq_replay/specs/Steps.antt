-- What making one step of a schedule comes to. Private calls alone cite this file
use Rattle.std.specs.Prelude.{◌≡◌, ℕ, ◌+◌, List, ◌++◌, Some, None}
use Rattle.scq_word.specs.declared.setup.Setup.{Setup}
use Rattle.scq_core.specs.declared.step.Step.{Step}
use Rattle.scq_core.specs.Machine.{Machine}
use Rattle.scq_core.specs.Exports.{step_of}
use Rattle.scq_replay.specs.declared.replaying.ScheduleFault.{ScheduleFault}
use Rattle.scq_replay.specs.declared.replaying.ScheduleFault.TheVariants.{BadLine, NotEnabled}
use Rattle.scq_replay.specs.Printed.{call_ring, step_line}
use Rattle.scq_replay.specs.Replay.{turn_of_line}

-- the line of this number says a step that leads from one state to the other, and its printed line
-- was added
pub record IsMade (c : Setup) (number : ℕ) (line : List ℕ) (m next : Machine)
    (old new : List ℕ) : Type 0 where
  pub turn : ℕ × Step
  pub says : turn_of_line c number line ≡ Some turn
  pub leads : step_of c m turn.0 turn.1 ≡ Some next
  pub prints : new
      ≡ old ++ step_line c number turn.0 turn.1 (call_ring turn.1 (m.part turn.0).phase) next

-- why the line of this number is refused in this state: it says no step, or one that isn't enabled
pub data LineIsRefused (c : Setup) (number : ℕ) (line : List ℕ) (m : Machine) : ScheduleFault
    → Type 0 where
  bad_line : turn_of_line c number line ≡ None
      → LineIsRefused c number line m (BadLine (number + 1))
  not_enabled : (turn : ℕ × Step) → turn_of_line c number line ≡ Some turn
      → step_of c m turn.0 turn.1 ≡ None
      → LineIsRefused c number line m (NotEnabled (number + 1))
