-- What sources in memory are.
use Rattle.std.specs.Prelude.{ℕ, List}
use Rattle.scq_outside.specs.Calls.{Calls}

-- the bytes that are left, and how many reads have answered the end
pub record Plain : Type 0 where
  pub left : List ℕ
  pub ends : ℕ

-- the bytes that are left, how its reads go, how many of them failed, and how many answered the end
pub record Readable : Type 0 where
  pub left : List ℕ
  pub reads : Calls
  pub faults : ℕ
  pub ends : ℕ
