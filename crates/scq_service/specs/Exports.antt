-- What proofs and other crates import of these files.
pub use Rattle.scq_service.specs.Members.{FilesOf, SourceOf, SinkOf}
pub use Rattle.scq_service.specs.Contents.{contents_of, IfVisible, without_names, IsMissing}
pub use Rattle.scq_service.specs.Causes.{given_bytes, file_fault, first_file_fault, IsTroubled}
pub use Rattle.scq_service.specs.Causes.{HaveRest}
pub use Rattle.scq_service.specs.Ends.{Change, Inputs, Wrote, inputs_of, wrote_of, IsUnchanged}
pub use Rattle.scq_service.specs.Ends.{IsUnwritten, IfTold, HasGotSources, most_payload, HasMissed}
pub use Rattle.scq_service.specs.Ends.{FileIsRefused, ReadsOver, EndsOver, EndsWithoutFiles}
pub use Rattle.scq_service.specs.Ends.{most_text, IfContent, EndsWhole, HaveAll, ReportMeets}
pub use Rattle.scq_service.specs.Ends.{JudgeMissesFile, EndsUnjudged, end_of_report, WroteReport}
pub use Rattle.scq_service.specs.Ends.{WroteReportPart, IsWritten, EndsJudged, EndsAs, IsCalm}
pub use Rattle.scq_service.specs.Ends.{OrderMeets, EndsUnordered, OrderTextMeets, EndsOrdered}
pub use Rattle.scq_service.specs.Ends.{EndsRecorded, EndsUntold, IsToldOf, IsUntoldOf, IsToWrite}
pub use Rattle.scq_service.specs.Ends.{IsCalmText}
pub use Rattle.scq_service.specs.Ends.{IsOfTextAlone}
pub use Rattle.scq_service.specs.Faults.{status_of, file_line, entry_line, topics_line, words_line}
pub use Rattle.scq_service.specs.Faults.{limit_line, payload_line, text_line, place_line, run_line}
pub use Rattle.scq_service.specs.Faults.{seat_line, shared_words, fault_line, fault_of_work}
pub use Rattle.scq_service.specs.Faults.{bytes_of_large, fault_of_judge}
pub use Rattle.scq_service.specs.Naming.{is_plain, shown_byte, shown, text_is}
pub use Rattle.scq_service.specs.Naming.{is_line, name_of, name_line}
pub use Rattle.scq_service.specs.Naming.{files_asked, option_is, option_line}
pub use Rattle.scq_service.specs.Naming.{word_line, command_line, words_lines, fault_lines}
pub use Rattle.scq_service.specs.Naming.{source_cause, cause_told, cause_words, cause_line}
pub use Rattle.scq_service.specs.Naming.{cause_of_read, cause_of_write, caused_lines}
pub use Rattle.scq_service.specs.Naming.{lines_behind}
pub use Rattle.scq_service.specs.Names.{names_in}
pub use Rattle.scq_service.specs.Writing.{written_with, WrotePart}
pub use Rattle.scq_service.specs.Written.{HasWritten}
pub use Rattle.scq_service.specs.Answers.{HaveCome, HaveAllCome, IsThereAt, WorkedAs, TellsWork}
pub use Rattle.scq_service.specs.Answers.{TellsStages, LeavesNothing, IsSeenAt, WaitedAs}
pub use Rattle.scq_service.specs.Reports.{reported, counts_line, directs_in, worker_line}
pub use Rattle.scq_service.specs.Reports.{worker_lines, all_line, workers_report, asks_report}
pub use Rattle.scq_service.specs.Serving.{IsOutcomeOf, WorkersWaited, EndsWellWhereCalm}
pub use Rattle.scq_service.specs.Serving.{HasReported}
