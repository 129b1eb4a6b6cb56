-- What proofs and other crates import of these files.
pub use Rattle.scq_judge.specs.Entry.{said_by}
pub use Rattle.scq_judge.specs.Recording.{nothing, entry_may_follow, event_with, with_entry}
pub use Rattle.scq_judge.specs.Recording.{after_entry, after_line, after_lines, after_file, if_file}
pub use Rattle.scq_judge.specs.Recording.{after_files, recording_of, EventsAreOfFiles}
pub use Rattle.scq_judge.specs.Recording.{AllAreOfFiles}
pub use Rattle.scq_judge.specs.Files.{HaveContents, IsFile, most_bytes, NoneIsLarge, IsLarge}
pub use Rattle.scq_judge.specs.Reads.{HasGiven, IsReadWhole, OfEach, AreReadWhole, AreQuiet}
pub use Rattle.scq_judge.specs.Reads.{HasFailed, AreReadBefore, AreReadUntil, Progress}
pub use Rattle.scq_judge.specs.Reads.{HaveBeenRead, IsOfOneFile, ReadingStopped, CountsFault}
pub use Rattle.scq_judge.specs.Reads.{FileIsAdded, IsLineFault, IsFileFault}
pub use Rattle.scq_judge.specs.Merged.{RiseBelow, IsMergeOf, HasEqual, StampIsAbove, IsPlaceAt}
pub use Rattle.scq_judge.specs.Merged.{HasStampOfAnother}
pub use Rattle.scq_judge.specs.Seats.{event_seat, EventIsAt, EachSeatInOneFile, IsAwayFrom}
pub use Rattle.scq_judge.specs.Seats.{HasSeatOfAnother, NoneBefore, IsSeatHome, AreHomes, IsAtHome}
pub use Rattle.scq_judge.specs.Seats.{IsAway}
pub use Rattle.scq_judge.specs.Runs.{AreOfOneRun, IsOfAnotherRun, AreOfRun}
pub use Rattle.scq_judge.specs.Counted.{IsStarting, IsStartAt, named_by, IsNamed, IsBusy, Overlaps}
pub use Rattle.scq_judge.specs.Counted.{Before, IsNamedBefore, is_seen, AreSeen, AreBusy, NeverEnds}
pub use Rattle.scq_judge.specs.Telling.{name_text, got_name_text, call_text, told_by}
pub use Rattle.scq_judge.specs.Report.{verdict_text, event_text, put_text, got_text, waiting_text}
pub use Rattle.scq_judge.specs.Report.{origin_text, overtaker_text, plain_line, origin_line}
pub use Rattle.scq_judge.specs.Report.{beside_line, waiting_line, order_line, full_line, count_line}
pub use Rattle.scq_judge.specs.Report.{report_lines, tests_gots, tests_order, tests_empty}
pub use Rattle.scq_judge.specs.Report.{tests_refused, tests_opening, over_text, opening_line}
pub use Rattle.scq_judge.specs.Report.{linearizable_line, count_lines, ending_lines, IsOrderTold}
pub use Rattle.scq_judge.specs.Report.{unbroken_text, over_by}
pub use Rattle.scq_judge.specs.Findings.{worst_finding}
pub use Rattle.scq_judge.specs.Ordering.{AreOrders, members_of}
pub use Rattle.scq_judge.specs.OrderText.{order_lines}
pub use Rattle.scq_judge.specs.Ordered.{IsOrderedOf}
pub use Rattle.scq_judge.specs.Judged.{IsLawfulHistory, IsOrdered, IsOrderedIn}
pub use Rattle.scq_judge.specs.Judged.{IsHistoryOf, IsReported, IsFirstUnlawful, IsSharing}
pub use Rattle.scq_judge.specs.Judged.{IsCauseIn}
pub use Rattle.scq_judge.specs.Judged.{IsJudged, AreSoundBefore, IsCause, IsUnlawfulAt}
pub use Rattle.scq_judge.specs.Judged.{fault_of_merging}
