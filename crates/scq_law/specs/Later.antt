-- What comes after a state: the states that steps reach from it.
use Rattle.std.specs.Prelude.{◌≡◌, ℕ, ◌<◌, Some}
use Rattle.scq_word.specs.declared.setup.Setup.{Setup}
use Rattle.scq_core.specs.declared.step.Step.{Step}
use Rattle.scq_core.specs.Machine.{Machine}
use Rattle.scq_core.specs.Exports.{step_of}

pub data IsLater (c : Setup) (m : Machine) : Machine → Type 0 where
  at_once : IsLater c m m
  by_step : {n n' : Machine} (seat : ℕ) (step : Step) → IsLater c m n → seat < c.seats
      → step_of c n seat step ≡ Some n' → IsLater c m n'
