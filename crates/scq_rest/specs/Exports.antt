-- What proofs and other crates import of these files.
pub use Rattle.scq_rest.specs.Sweeping.{idle_sweeps, HasSweptTold, HasSweptOut, HasLeftTold}
pub use Rattle.scq_rest.specs.Waiting.{HasWaited, EachWaited, HaveWaited, before_of}
pub use Rattle.scq_rest.specs.Waiting.{at_retirements}
pub use Rattle.scq_rest.specs.Threads.{Task, task, IsGiven, HasBegun, HasDone, HandsBack, RangOn}
pub use Rattle.scq_rest.specs.Places.{given_to, here, IsReadyToBegin, HasWork, IsUntouched}
pub use Rattle.scq_rest.specs.Resting.{HasRoom, AreSettled, EachRang}
