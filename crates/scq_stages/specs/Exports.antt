-- What proofs and other crates import of these files.
pub use Rattle.scq_stages.specs.Stages.{redacted_byte, redacted, squeezed_behind, squeezed, both}
pub use Rattle.scq_stages.specs.Stages.{stages_left}
pub use Rattle.scq_stages.specs.Output.{Handled, handled_to, all_handled, handled_line}
pub use Rattle.scq_stages.specs.Output.{text_of_handled, one_thread_stage_output, without_way}
pub use Rattle.scq_stages.specs.Output.{finished_in, position_of_finished, position_of_handled}
pub use Rattle.scq_stages.specs.Handling.{after_stage}
pub use Rattle.scq_stages.specs.Members.{finished, is_way_second, is_way_first, is_way_direct}
pub use Rattle.scq_stages.specs.Members.{is_second, is_first, is_direct, way_from, FinishesTake}
pub use Rattle.scq_stages.specs.Members.{SecondsAre, FirstsAre, DirectsAre, IsMove, AreMoves}
pub use Rattle.scq_stages.specs.Members.{IsNoPart}
pub use Rattle.scq_stages.specs.Records.{second, first, take_topic, HelpsSecondThenFirst}
pub use Rattle.scq_stages.specs.Records.{HelpsJustSecondThenFirst, FoundFirstEmpty, is_next}
pub use Rattle.scq_stages.specs.Passing.{whole_of, SendsToFirst, FinishesItself, IsNextOf}
pub use Rattle.scq_stages.specs.Steps.{SecondsSoFar, FirstsSoFar, MovesSoFar, IsReturnOrMove, GotNo}
pub use Rattle.scq_stages.specs.Steps.{HasGivenBack, HasTakenOrMoved, HasMovedIts}
pub use Rattle.scq_stages.specs.Steps.{HasFinishedSeconds, HasFinishedFirsts, HasFinished}
pub use Rattle.scq_stages.specs.Steps.{HasTakenOne, HasFinishedOne, HasFinishedOnlySeconds}
pub use Rattle.scq_stages.specs.Working.{HasFewStageCalls, HasListed, IsAtWork, IsDone}
pub use Rattle.scq_stages.specs.Working.{HasListedAll, IsLeaving, HasStopped, HasMovedAllAndSwept}
pub use Rattle.scq_stages.specs.Working.{HasRun}
pub use Rattle.scq_stages.specs.Seats.{Seated, IsToBegin, HasRunAt}
pub use Rattle.scq_stages.specs.AllStages.{handled_of, HaveFinished, KeepsStages, NothingIsStranded}
pub use Rattle.scq_stages.specs.AllStages.{HasStaged}
pub use Rattle.scq_stages.specs.Ends.{EndsStages}
pub use Rattle.scq_stages.specs.Reading.{IsAt, HasStoppedAt}
pub use Rattle.scq_stages.specs.Sweeping.{HasFinishedAll, HasLeftAt, FinishesOn, LeavesOn}
