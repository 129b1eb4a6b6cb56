-- What proofs and other crates import of these files.
pub use Rattle.scq_desk.specs.Seats.{IsToBegin}
pub use Rattle.scq_desk.specs.Rooms.{IsRoomFor, IsLaid}
pub use Rattle.scq_desk.specs.Faults.{fault_of_workers, NoneStarved, HasCause}
pub use Rattle.scq_desk.specs.GoingOn.{CameBack, gone-none}
pub use Rattle.scq_desk.specs.Ends.{EndsReading}
pub use Rattle.scq_desk.specs.Brought.{HaveBrought}
