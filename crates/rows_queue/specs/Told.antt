-- What stays as it was where one pass or seat tells another what it has seen.
use Rattle.std.specs.Prelude.{◌≡◌}
use Rattle.scq_band.specs.Standing.{Standing}
use Rattle.scq_queue.specs.Exports.{PassStanding}

module _ {B : Type 0} where
  -- all of a pass but what it knows and what it has seen
  abbrev pub PassStays : PassStanding B → PassStanding B → Type 0
  PassStays old new = new ≡ record old { numbers = new.numbers; seen = new.seen }

  -- and of a seat
  abbrev pub SeatStays : Standing B → Standing B → Type 0
  SeatStays old new = new ≡ record old { numbers = new.numbers; seen = new.seen }
