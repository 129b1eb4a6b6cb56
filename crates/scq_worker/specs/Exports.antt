-- What proofs and other crates import of these files.
pub use Rattle.scq_worker.specs.Members.{answered, CarriesParts, numbered_way, answers_from}
pub use Rattle.scq_worker.specs.Members.{answers_by, answers_to_take, answers_to_takes}
pub use Rattle.scq_worker.specs.Members.{AnswersSoFar, IsBatch, GotParts, AnswersItsTakes, is_taken}
pub use Rattle.scq_worker.specs.Members.{AnswersFull, AnswersItsFulls, is_direct}
pub use Rattle.scq_worker.specs.Passing.{parts_in, parts_among, parts_on, AreBatchesOf, Sends}
pub use Rattle.scq_worker.specs.Passing.{BatchesArePassedOn, FollowsCalls, no_call, by_send}
pub use Rattle.scq_worker.specs.Passing.{by_full, by_other}
pub use Rattle.scq_worker.specs.Opening.{most_together, takes_behind, open_on, IsOpen, AreOpen}
pub use Rattle.scq_worker.specs.Opening.{NoneIsOpen, PartsAreGathered, FitsBehind, IsOpenBehind}
pub use Rattle.scq_worker.specs.Opening.{AreOpenBehind}
pub use Rattle.scq_worker.specs.Loads.{parts_of_load, IsLoad}
pub use Rattle.scq_worker.specs.Working.{HasSent, IsProducing, IsSweeping, HasListed, HasAnswered}
pub use Rattle.scq_worker.specs.Working.{HasPassed, IsAtWork, HasListedAll, HasStopped}
pub use Rattle.scq_worker.specs.Reading.{IsWorking, IsSameWorker, still-same, still-along}
pub use Rattle.scq_worker.specs.Reading.{HasPassedOn, KeepsCalling, HasGathered, HasStoppedBehind}
pub use Rattle.scq_worker.specs.Reading.{HasStoppedIn, gathered-nothing, goes-along, gathered-along}
pub use Rattle.scq_worker.specs.Reading.{stopped-along, ClosesWhereFull}
pub use Rattle.scq_worker.specs.Sweeping.{HasAnsweredAll, HasTakenAll, KeepsItsOwn, HasLeftAt}
pub use Rattle.scq_worker.specs.Desks.{IsToSweep, HasRun, HasProduced, IsToSweepAt, HasRunAt}
pub use Rattle.scq_worker.specs.Desks.{HasProducedAt}
pub use Rattle.scq_worker.specs.Seats.{Seated, IsToBegin}
pub use Rattle.scq_worker.specs.Bells.{but_wakes, next_of, woken_once_more, more_often, others_more}
pub use Rattle.scq_worker.specs.Bells.{others_more_where, asked_once}
pub use Rattle.scq_worker.specs.Bells.{RingsEachSend, RingsOn, HasRung, same-worker, HasJustSent}
