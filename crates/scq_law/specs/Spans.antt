-- Where the steps of a seat's calls lie in a run, of which it is known that the seat was in the
-- middle of no call after the first so many.
use Rattle.std.specs.Prelude.{◌≡◌, ℕ, ◌<◌, ◌≤◌, length}
use Rattle.scq_core.specs.declared.phase.Phase.TheVariants.{Idle}
use Rattle.scq_law.specs.RunSteps.{Run, IsStepOf, state_before}

-- after the first `moment` steps of a run this seat is in the middle of no call, and so many calls
-- stand in its record
pub record RestsAt (run : Run) (moment seat calls : ℕ) : Type 0 where
  pub within : moment ≤ length run.steps
  pub idle : ((state_before run moment).part seat).phase ≡ Idle
  pub count : length ((state_before run moment).part seat).calls ≡ calls

-- then each step of a call that stands in the record came before, and each step of another call
-- comes later
pub record CallsApart (run : Run) (moment seat calls : ℕ) : Type 0 where
  pub earlier : (i call : ℕ) → IsStepOf run i seat call → call < calls → i < moment
  pub later : (i call : ℕ) → IsStepOf run i seat call → calls ≤ call → moment ≤ i
