-- What proofs and other crates import of these files.
pub use Rattle.scq_c.specs.Handles.{port_boxed, port_kept}
pub use Rattle.scq_c.specs.Tallies.{tally_of, AreWritten}
pub use Rattle.scq_c.specs.Codes.{scq_closed}
pub use Rattle.scq_c.specs.Answers.{shown_at, with_place, OfLend, OfTake, OfSend, OfGiveBack}
pub use Rattle.scq_c.specs.Answers.{OfRetired, OfCount, ports_of, memories_of, IsClosed, HaveOpened}
pub use Rattle.scq_c.specs.Answers.{OfOpen}
pub use Rattle.scq_c.specs.Many.{InARow, none_yet, one_more, SlotCall, WentAt, OfMany, OfSlotSend}
pub use Rattle.scq_c.specs.Many.{OfSlotGiveBack, OfSends, OfGiveBacks}
pub use Rattle.scq_c.specs.Answered.{LendAnswered, TakeAnswered, SendAnswered, GiveBackAnswered}
