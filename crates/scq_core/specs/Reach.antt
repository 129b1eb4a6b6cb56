-- The states that steps reach from the start. A seat may stop for ever in the middle of a call.
use Rattle.std.specs.Prelude.{ℕ, ◌≡◌, ◌<◌, List, length, Some}
use Rattle.scq_word.specs.declared.setup.Setup.{Setup}
use Rattle.scq_word.specs.Exports.{n_of}
use Rattle.scq_core.specs.declared.step.Step.{Step}
use Rattle.scq_core.specs.Machine.{Machine}
use Rattle.scq_core.specs.Table.{step_of}
use Rattle.scq_core.specs.Start.{start_of}

pub data IsReachable (c : Setup) : Machine → Type 0 where
  at_start : (opening : List (List ℕ)) → length opening ≡ n_of c.order
      → IsReachable c (start_of c opening)
  by_step : {m m' : Machine} (seat : ℕ) (step : Step) → IsReachable c m → seat < c.seats
      → step_of c m seat step ≡ Some m' → IsReachable c m'
