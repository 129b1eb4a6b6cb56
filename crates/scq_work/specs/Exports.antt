-- What proofs and other crates import of these files.
pub use Rattle.scq_work.specs.AllWorkers.{OfEachWorkersAnswers, HaveAnswered, HasHelped}
pub use Rattle.scq_work.specs.AllWorkers.{NothingIsStranded, HasWorked}
pub use Rattle.scq_work.specs.Ends.{EndsWork}
