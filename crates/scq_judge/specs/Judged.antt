-- What recordings with visible contents tell: the report of the merged history, or the cause of a
-- fault
use Rattle.std.specs.Prelude.{◌≡◌, ℕ, ◌-◌, Bool, ◌==◌, List, Ok, Err, Option, Some, length}
use Rattle.std.specs.Prelude.{take, slice_get}
use Rattle.scq_hist.specs.Exports.{IsLawful, IsLawfulAt, IsFirstFailing}
use Rattle.scq_hist.specs.declared.events.Event.{Event}
use Rattle.scq_judge.specs.Files.{NoneIsLarge, IsLarge}
use Rattle.scq_judge.specs.Ordered.{IsOrderedOf}
use Rattle.scq_judge.specs.Merged.{IsMergeOf, HasStampOfAnother}
use Rattle.scq_judge.specs.Recording.{Recording, recording_of}
use Rattle.scq_judge.specs.Runs.{AreOfOneRun, IsOfAnotherRun}
use Rattle.scq_judge.specs.Seats.{EachSeatInOneFile, HasSeatOfAnother}
use Rattle.scq_judge.specs.Findings.{worst_finding}
use Rattle.scq_judge.specs.Report.{IsReport, report_lines}
use Rattle.scq_judge.specs.declared.judging.Judged.{Judged}
use Rattle.scq_judge.specs.declared.judging.JudgeFault.{JudgeFault}
use Rattle.scq_judge.specs.declared.judging.JudgeFault.TheVariants.{BadLine, Shared as SharedBy}
use Rattle.scq_judge.specs.declared.judging.JudgeFault.TheVariants.{TwoRuns, Unlawful, ReadFault}
use Rattle.scq_judge.specs.declared.judging.JudgeFault.TheVariants.{TooLarge, NoMemory}
use Rattle.scq_judge.specs.declared.judging.Report.{Report}
use Rattle.scq_judge.specs.declared.judging.Shared.{Shared}
use Rattle.scq_judge.specs.declared.judging.Shared.TheVariants.{Stamp, Seat}
use Rattle.scq_judge.specs.declared.merging.MergeFault.{MergeFault}
use Rattle.scq_judge.specs.declared.merging.MergeFault.TheVariants as merging
use Rattle.scq_judge.specs.declared.ordering.Ordered.{Ordered}
use Rattle.scq_judge.specs.declared.recorded.Place.{Place}
use Rattle.scq_judge.specs.declared.recorded.Stamped.{Stamped}

-- the history that what was read is merged to
pub record IsHistoryOf (recorded : Recording) (opening : List (List ℕ)) (events : List Event)
    (places : List Place) : Type 0 where
  pub opens : opening ≡ recorded.opening
  pub merged : IsMergeOf recorded.events events places

-- this is the history that what was read is merged to, and it is lawful: the files that tell their
-- run tell the same one, and each seat's events stand in one file
pub record IsLawfulHistory (recorded : Recording) (opening : List (List ℕ)) (events : List Event)
    (places : List Place) : Type 0 where
  pub runs : AreOfOneRun recorded.runs
  pub seats : EachSeatInOneFile recorded.events
  pub history : IsHistoryOf recorded opening events places
  pub many : length places ≡ length events
  pub lawful : IsLawful events

-- the history is lawful, and the text is that of its report, which tells of files by these names,
-- and of refusals where it is known for how many values each queue has room; the finding is the
-- worst of the text's lines
pub record IsReportOf (names : List (List ℕ)) (room : Option ℕ) (opening : List (List ℕ))
    (events : List Event) (places : List Place) (judged : Judged) : Type 0 where
  pub lawful : IsLawful events
  pub report : Report
  pub is_report : IsReport room opening events report
  pub said : judged.text
      ≡ report_lines (record { names = names; places = places; events = events }) report
  pub found : judged.worst ≡ worst_finding report

-- this is the report of the history that what was read is merged to: the files that tell their run
-- tell the same one, and each seat's events stand in one file
pub record IsReported (names : List (List ℕ)) (room : Option ℕ) (recorded : Recording)
    (judged : Judged) : Type 0 where
  pub runs : AreOfOneRun recorded.runs
  pub seats : EachSeatInOneFile recorded.events
  pub opening : List (List ℕ)
  pub events : List Event
  pub places : List Place
  pub history : IsHistoryOf recorded opening events places
  pub reported : IsReportOf names room opening events places judged

-- so an order of it is told, or why there is none
pub record IsOrdered (recorded : Recording) (ordered : Ordered) : Type 0 where
  pub opening : List (List ℕ)
  pub events : List Event
  pub places : List Place
  pub history : IsLawfulHistory recorded opening events places
  pub told : IsOrderedOf opening events ordered

-- the event of this place is the first of the merged history that is unlawful
pub record IsFirstUnlawful (recorded : Recording) (place : Place) : Type 0 where
  pub opening : List (List ℕ)
  pub events : List Event
  pub places : List Place
  pub history : IsHistoryOf recorded opening events places
  pub e : ℕ
  pub first : IsFirstFailing (λ d. IsLawfulAt events d (slice_get events d)) (Some e)
  pub stands : slice_get places e ≡ Some place

-- the event of this place shares this with the one of the other place
abbrev pub IsSharing : List Stamped → Shared → Place → Place → Type 0
IsSharing events Stamp place other = HasStampOfAnother events place other
IsSharing events Seat place other = HasSeatOfAnother events place other

abbrev pub shared_by : Shared → Place → Place → JudgeFault
shared_by what place other = SharedBy what place.file place.line other.file other.line

-- what is at fault in what was read. No other fault comes of it, since each line was understood
abbrev pub IsCauseIn : Recording → JudgeFault → Type 0
IsCauseIn recorded (SharedBy what file line other_file other_line) =
    IsSharing recorded.events what (record { file = file; line = line })
    (record { file = other_file; line = other_line })
IsCauseIn recorded (TwoRuns file run other_file other_run) =
    IsOfAnotherRun recorded.runs (record { file = file; number = run })
    (record { file = other_file; number = other_run })
IsCauseIn recorded (Unlawful file line) =
    IsFirstUnlawful recorded (record { file = file; line = line })
IsCauseIn recorded NoMemory = Unit {0}
IsCauseIn recorded _ = ⊥

-- recordings of files with these names and contents, of which none has too many bytes, are read,
-- and tell this report
pub record IsJudged (names : List (List ℕ)) (room : Option ℕ) (contents : List (List ℕ))
    (judged : Judged) : Type 0 where
  pub small : NoneIsLarge contents
  pub recorded : Recording
  pub read : recording_of (length names == 1) contents ≡ Ok recorded
  pub reported : IsReported names room recorded judged

-- of such recordings this is told where an order is asked for
pub record IsOrderedIn (lone : Bool) (contents : List (List ℕ)) (ordered : Ordered) : Type 0 where
  pub small : NoneIsLarge contents
  pub recorded : Recording
  pub read : recording_of lone contents ≡ Ok recorded
  pub told : IsOrdered recorded ordered

-- or they are at fault so
pub record IsCaused (lone : Bool) (contents : List (List ℕ)) (fault : JudgeFault) : Type 0 where
  pub small : NoneIsLarge contents
  pub recorded : Recording
  pub read : recording_of lone contents ≡ Ok recorded
  pub cause : IsCauseIn recorded fault

-- nothing is at fault in the files before this one: none has too many bytes, and each line is
-- understood
pub record AreSoundBefore (lone : Bool) (contents : List (List ℕ)) (file : ℕ) : Type 0 where
  pub small : NoneIsLarge (take (file - 1) contents)
  pub recorded : Recording
  pub read : recording_of lone (take (file - 1) contents) ≡ Ok recorded

-- this line is the first that isn't understood, and no file before has too many bytes
pub record IsFirstBad (lone : Bool) (contents : List (List ℕ)) (file line : ℕ) : Type 0 where
  pub small : NoneIsLarge (take (file - 1) contents)
  pub bad : recording_of lone contents ≡ Err (record { file = file; line = line })

-- this is at fault in the contents of the files that were read; where it is of one file that is the
-- last of them, and nothing is at fault in those before. Of a read that failed and of want of
-- memory nothing is said
abbrev pub IsCause : Bool → List (List ℕ) → JudgeFault → Type 0
IsCause lone contents (BadLine file line) = IsFirstBad lone contents file line
IsCause lone contents (SharedBy what file line other_file other_line) =
    IsCaused lone contents (SharedBy what file line other_file other_line)
IsCause lone contents (TwoRuns file run other_file other_run) =
    IsCaused lone contents (TwoRuns file run other_file other_run)
IsCause lone contents (Unlawful file line) = IsCaused lone contents (Unlawful file line)
IsCause lone contents (TooLarge file) =
    IsLarge contents file × AreSoundBefore lone contents file
IsCause lone contents (ReadFault file) = AreSoundBefore lone contents file
IsCause lone contents NoMemory = Unit {0}

-- For private calls: the fault tells the place of the first event that isn't lawful
abbrev pub IsUnlawfulAt : List Event → List Place → JudgeFault → Type 0
IsUnlawfulAt events places (Unlawful file line) =
    (e : ℕ) × IsFirstFailing (λ d. IsLawfulAt events d (slice_get events d)) (Some e)
    × (slice_get places e ≡ Some (record { file = file; line = line }))
IsUnlawfulAt events places _ = ⊥

-- the fault of merging
abbrev pub fault_of_merging : MergeFault → JudgeFault
fault_of_merging (merging.SameStamp place other) = shared_by Stamp place other
fault_of_merging merging.NoMemory = NoMemory
