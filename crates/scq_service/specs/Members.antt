-- What contracts see of the outside: of a source its count of reads that failed, its count of those
-- that answered the end, and what it has left; of files their count of faults and their table; of a
-- sink its count of faults and what was written to it; and of each what its last fault came from
pub use Rattle.scq_outside.specs.declared.source.Source.{Ghosts as SourceOf}
pub use Rattle.scq_outside.specs.declared.files.Files.{Ghosts as FilesOf}
pub use Rattle.scq_outside.specs.declared.sink.Sink.{Ghosts as SinkOf}
