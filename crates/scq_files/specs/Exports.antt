-- What proofs and other crates import of these files.
pub use Rattle.scq_files.specs.Given.{given_in}
pub use Rattle.scq_files.specs.Files.{is_of, files_of, own_of, OfEachFile}
pub use Rattle.scq_files.specs.Reading.{IsWhole, SourceOf, IsStopped, EndsSo, GaveAll, AreOf}
pub use Rattle.scq_files.specs.Reading.{most_parts, IsRead}
pub use Rattle.scq_files.specs.Ends.{end_fault, wanted_memory, HasMoved, ReadingStopsAt, EndsFed}
pub use Rattle.scq_files.specs.Ends.{AllEndFed, StopsAtFaults, all_left, FileGave, AreGiven}
pub use Rattle.scq_files.specs.Ends.{messages_in}
pub use Rattle.scq_files.specs.OwnFiles.{ids_of, IsNew, StopsAtAFault, all_given, AreRead}
pub use Rattle.scq_files.specs.OwnFiles.{WereRead}
pub use Rattle.scq_files.specs.Desks.{AreGathered, workers_at, AreDealt, AllWhole, AllStop}
pub use Rattle.scq_files.specs.Desks.{AllEnded}
pub use Rattle.scq_files.specs.Handling.{WantsAtLast, TellsOfWant}
