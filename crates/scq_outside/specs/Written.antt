-- What a sink in memory is.
use Rattle.std.specs.Prelude.{ℕ, List}
use Rattle.scq_outside.specs.Calls.{Calls}

-- the bytes that were written, the room that is left, how its writes go, and how many of them
-- failed
pub record Written : Type 0 where
  pub bytes : List ℕ
  pub room : ℕ
  pub writes : Calls
  pub faults : ℕ
