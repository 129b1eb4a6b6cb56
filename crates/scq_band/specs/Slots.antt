-- What contracts see of a slot of the table: the buffer of the slot's index, or none while that is
-- lifted.
use Rattle.std.specs.Prelude.{Option}

pub record SlotStanding (B : Type 0) : Type 0 where
  pub buffer : Option B
