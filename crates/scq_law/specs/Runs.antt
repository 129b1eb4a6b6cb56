-- A state is reachable where it is the end of a run.
use Rattle.std.specs.Prelude.{◌≡◌, ℕ, List}
use Rattle.scq_word.specs.declared.setup.Setup.{Setup}
use Rattle.scq_core.specs.declared.step.Step.{Step}
use Rattle.scq_core.specs.Machine.{Machine}
use Rattle.scq_law.specs.Run.{Recorded, IsRun}

-- some run ends in this state
pub record EndsRun (c : Setup) (m : Machine) : Type 0 where
  pub opening : List (List ℕ)
  pub steps : List (ℕ × Step)
  pub recorded : Recorded
  pub run : IsRun c opening steps recorded
  pub ends : recorded.state ≡ m
