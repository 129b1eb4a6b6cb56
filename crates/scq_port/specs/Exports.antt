-- What proofs and other crates import of these files.
pub use Rattle.scq_port.specs.Ports.{buffer_bytes, Value, PortQueue, AreNumbered, PortStanding}
pub use Rattle.scq_port.specs.Calls.{Came, ValueWent, HasItsNumber, IsLent, ValueIsTaken, IsSent}
pub use Rattle.scq_port.specs.Calls.{ValueIsGivenBack, WasFull, WasEmpty, IsSpent, IsSpentGet}
pub use Rattle.scq_port.specs.Calls.{IsSpentPut, HasNoRoom, HasTopic, HasNoTopic, HoldsNoSuch}
pub use Rattle.scq_port.specs.Calls.{PortHasRetired, retired_pass, retired_port, HasAsked}
pub use Rattle.scq_port.specs.Calls.{HasCounted, values_of, GaveBack, HasPassEnded, new_port}
pub use Rattle.scq_port.specs.Calls.{AreOpened, port_having_seen}
pub use Rattle.scq_port.specs.Kept.{indices, StandsAt, Keeps, KeepsHand, StillKeeps, seen_as}
pub use Rattle.scq_port.specs.Kept.{HoldsNothing, LetsGo, AreAdded}
pub use Rattle.scq_port.specs.Ends.{Laid, Claim, no_claim, claimed_at, laid_at, home_of, IsPassOf}
pub use Rattle.scq_port.specs.Ends.{IsTrueClaim, EndsHold, HasClaimed, HasLaid, AreAllPasses}
pub use Rattle.scq_port.specs.Closed.{HasClosedPorts}
pub use Rattle.scq_port.specs.Numbers.{four_bytes, numbers_below}
