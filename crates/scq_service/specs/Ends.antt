-- How a run ends, up to what is reported of it, case by case. It knows contents, topics and
-- settings alone, and neither how the work is done nor by whom.
use Rattle.std.specs.Prelude.{◌≡◌, ◌⊎◌, Bool, true, false, ℕ, ◌+◌, ◌-◌, ◌^◌, ◌<◌, ◌≤◌, List, []}
use Rattle.std.specs.Prelude.{Option, Some}
use Rattle.std.specs.Prelude.{None, IsSome, IfSome, IsSomeAnd, Result, Ok, Err, length, take}
use Rattle.std.specs.Prelude.{slice_get, slice_index_or, ◌==◌}
use Rattle.std.specs.List.{All}
use Rattle.std.specs.Option.{option_map}
use Rattle.scq_outside.specs.Exports.{Rose, without_name}
use Rattle.scq_outside.specs.Table.{Table}
use Rattle.scq_frames.specs.Exports.{NothingLeft, LongPayload, ManyBytes, file_trouble}
use Rattle.scq_collect.specs.Exports.{one_thread_output}
use Rattle.scq_lines.specs.Exports.{lines_of}
use Rattle.scq_self.specs.Exports.{self_summary}
use Rattle.scq_judge.specs.Exports.{AreSoundBefore, IsJudged, IsCause, AreQuiet, AreReadUntil}
use Rattle.scq_judge.specs.Exports.{AreReadWhole, IsOrderedIn, IsOrdered, IsReported, IsCauseIn}
use Rattle.scq_judge.specs.Recording.{Recording}
use Rattle.scq_judge.specs.declared.finding.Finding.{Finding}
use Rattle.scq_judge.specs.declared.finding.Finding.TheVariants as says
use Rattle.scq_judge.specs.declared.judging.Judged.{Judged}
use Rattle.scq_judge.specs.declared.judging.JudgeFault.{JudgeFault}
use Rattle.scq_judge.specs.declared.judging.JudgeFault.TheVariants as judge
use Rattle.scq_judge.specs.declared.ordering.Ordered.{Ordered}
use Rattle.scq_judge.specs.declared.ordering.Ordered.TheVariants as order
use Rattle.scq_stages.specs.Exports.{one_thread_stage_output}
use Rattle.scq_words.specs.Exports.{run, generated, judged, whole, staged}
use Rattle.scq_words.specs.Asked.{Asked}
use Rattle.scq_words.specs.declared.fault.WordsFault.{WordsFault}
use Rattle.scq_words.specs.declared.text_request.TextCommand.{TextCommand}
use Rattle.scq_files.specs.Exports.{HasMoved, all_left}
use Rattle.scq_service.specs.Members.{FilesOf, SinkOf, SourceOf}
use Rattle.scq_service.specs.Causes.{first_file_fault, IsTroubled, HaveRest}
use Rattle.scq_service.specs.Faults.{fault_of_judge}
use Rattle.scq_service.specs.Contents.{IfVisible, IsMissing, without_names}
use Rattle.scq_service.specs.Telling.{Tells, IsOfText}
use Rattle.scq_service.specs.Writing.{written_with, WrotePart}
use Rattle.scq_service.specs.declared.fault.Fault.{Fault}
use Rattle.scq_service.specs.declared.fault.Fault.TheVariants.{Words, OpenFault, ReadFault, TooLong}
use Rattle.scq_service.specs.declared.fault.Fault.TheVariants.{TooLarge, WriteFault, BadLine}
use Rattle.scq_service.specs.declared.fault.Fault.TheVariants.{NotEnabled, Unlawful, Unfinished}
use Rattle.scq_service.specs.declared.fault.Fault.TheVariants.{BadLineOf, SharedOf, TwoRunsOf}
use Rattle.scq_service.specs.declared.fault.Fault.TheVariants.{UnlawfulOf, AspectFails, NotTested}
use Rattle.scq_service.specs.declared.fault.Fault.TheVariants.{NotLinearizable, NeverEnded}
use Rattle.scq_service.specs.declared.fault.Fault.TheVariants.{NotFound, NoMemory}

-- a count or what is visible of an object, before a call and after it
pub record Change (A : Type 0) : Type 0 where
  pub old : A
  pub new : A

-- what became of the inputs of a run: the table of files, how often a source was not got
-- (`misses`), the sources that were got, and, where a file is too large, how many bytes were read
-- of it (`read`, else 0)
pub record Inputs (S : Type 0) : Type 0 where
  pub table : Change (Option Table)
  pub misses : Change ℕ
  pub sources : List S
  pub read : ℕ

-- what is written to a sink, and its count of faults
pub record Wrote : Type 0 where
  pub written : Change (Option (List ℕ))
  pub faults : Change ℕ

-- these, by what is seen of files and of a sink before a call and after it
abbrev pub inputs_of : {F S : Type 0} → FilesOf F S → F → F → List S → ℕ → Inputs S
inputs_of files old new sources read =
    record {
      table = record { old = files.table old; new = files.table new };
      misses =
          record { old = files.faults old; new = files.faults new };
      sources = sources;
      read = read;
    }

abbrev pub wrote_of : {K : Type 0} → SinkOf K → K → K → Wrote
wrote_of sink old new =
    record {
      written = record { old = sink.written old; new = sink.written new };
      faults =
          record { old = sink.faults old; new = sink.faults new };
    }

-- nothing changed
abbrev pub IsUnchanged : {A : Type 0} → Change A → Type 0
IsUnchanged c = c.new ≡ c.old

-- nothing was written
abbrev pub IsUnwritten : Wrote → Type 0
IsUnwritten w = IsUnchanged w.written × IsUnchanged w.faults

-- the contents of the sources that were got, where each told its own then, meet P
abbrev pub IfTold : {S : Type 0} → (S → Option (List ℕ)) → List S → (List (List ℕ) → Type 0)
    → Type 0
IfTold left got P = IfSome (all_left left got) P

-- sources were got, with no fault counted. Where the table is visible their names left it, and each
-- told its name's content, in order; where a content was told, the source has left what follows the
-- bytes that it gave. Where all were got, `misses` was kept
pub record HasGotSources {S : Type 0} (src : SourceOf S) (names : List (List ℕ)) (got : List S)
    (r : Inputs S) : Type 0 where
  pub within : length r.sources ≤ length names
  pub count : length got ≡ length r.sources
  pub table : r.table.new ≡ option_map (without_names (take (length r.sources) names)) r.table.old
  pub kept : length r.sources ≡ length names → IsUnchanged r.misses
  pub fresh : All (λ source. src.faults source ≡ 0) got
  pub told : IfVisible r.table.old (take (length r.sources) names) (λ contents.
      all_left src.left got ≡ Some contents)
  pub moved : (k : ℕ) (d : S) → k < length got
      → HasMoved src (slice_index_or got k d) (slice_index_or r.sources k d)
  pub rest : IfTold src.left got (λ contents. HaveRest src.left contents r.sources)

-- of the files that were got this is the first fault
abbrev pub IsFirstFileFault : {S : Type 0} → ℕ → SourceOf S → List S → Inputs S → Option Fault
    → Type 0
IsFirstFileFault size src got r fault =
    IfTold src.left got (λ contents. first_file_fault size src 1 contents r.sources ≡ fault)

-- how many bytes a payload may have
abbrev pub most_payload : ℕ
most_payload = 2 ^ 20

-- so many sources were read to their ends: each answered its end once since it was got, and just
-- once
abbrev pub AreReadOut : {S : Type 0} → (S → ℕ) → ℕ → List S → Inputs S → Type 0
AreReadOut {S} end_count count got r =
    (k : ℕ) (d : S) → k < count
    → Rose (end_count (slice_index_or got k d)) (end_count (slice_index_or r.sources k d))

-- every source was got and read to its end, no read failed, and none was too large. Where each told
-- its content there is no fault in them
pub record IsAllRead {S : Type 0} (size : ℕ) (src : SourceOf S) (names : List (List ℕ))
    (got : List S) (r : Inputs S) : Type 0 where
  pub all : length r.sources ≡ length names
  pub quiet : All (λ source. src.faults source ≡ 0) r.sources
  pub ended : All (λ source. NothingLeft (src.left source)) r.sources
  pub once : AreReadOut src.ends (length r.sources) got r
  pub sound : IsFirstFileFault size src got r None
  pub read : r.read ≡ 0

-- the next source was not got: `misses` rose, and where the table is visible its name is missing
pub record HasMissed {S : Type 0} (names : List (List ℕ)) (r : Inputs S) : Type 0 where
  pub rose : Rose r.misses.old r.misses.new
  pub missing : IfSome r.table.old (λ files. IsMissing files names (length r.sources + 1))

-- a source was not got, and those before it were read to their ends, where no read failed. Where
-- each told its content there is no fault in them
pub record RunMissesFile {S : Type 0} (size : ℕ) (src : SourceOf S) (names : List (List ℕ))
    (got : List S) (r : Inputs S) (file : ℕ) : Type 0 where
  pub next : file ≡ length r.sources + 1
  pub within : length r.sources < length names
  pub missed : HasMissed names r
  pub quiet : All (λ source. src.faults source ≡ 0) r.sources
  pub ended : All (λ source. NothingLeft (src.left source)) r.sources
  pub once : AreReadOut src.ends (length r.sources) got r
  pub sound : IsFirstFileFault size src got r None
  pub read : r.read ≡ 0

-- this file is refused, and those before it were read to their ends, where no read failed; where
-- not all sources were got, the next one was not. Where each told its content this is the first
-- fault in them
pub record FileIsRefused {S : Type 0} (size : ℕ) (src : SourceOf S) (names : List (List ℕ))
    (got : List S) (r : Inputs S) (file : ℕ) (fault : Fault) : Type 0 where
  pub first : 0 < file
  pub last : file ≤ length r.sources
  pub stopped : length r.sources < length names → HasMissed names r
  pub quiet : All (λ source. src.faults source ≡ 0) (take (file - 1) r.sources)
  pub ended : All (λ source. NothingLeft (src.left source)) (take (file - 1) r.sources)
  pub once : AreReadOut src.ends (file - 1) got r
  pub cause : IsFirstFileFault size src got r (Some fault)

-- so many bytes of this file's content were read, and its source has the others left
abbrev pub IsReadOf : {S : Type 0} → (S → Option (List ℕ)) → ℕ → List (List ℕ) → List S → ℕ → Type 0
IsReadOf left read contents sources file =
    IsSomeAnd (slice_get contents (file - 1)) (λ content.
    IsSomeAnd (slice_get sources (file - 1)) (λ source.
    Some (length content) ≡ option_map (λ bytes. read + length bytes) (left source)))

-- how the reading of files of these names ends
abbrev pub ReadsOver : {S : Type 0} → ℕ → SourceOf S → List (List ℕ) → List S → Inputs S
    → Option Fault → Type 0
ReadsOver size src names got r None = IsAllRead size src names got r
ReadsOver size src names got r (Some (OpenFault file)) =
    RunMissesFile size src names got r file
ReadsOver size src names got r (Some (ReadFault file)) =
    FileIsRefused size src names got r file (ReadFault file) × (r.read ≡ 0)
    × IsSomeAnd (slice_get r.sources (file - 1)) (λ source. 0 < src.faults source)
ReadsOver size src names got r (Some (TooLong file line len limit)) =
    FileIsRefused size src names got r file (TooLong file line len limit)
    × (r.read ≡ 0) × (limit ≡ size) × (0 < line) × (size < len)
    × IfTold src.left got (λ contents. IsTroubled size contents file (LongPayload line len))
ReadsOver size src names got r (Some (TooLarge file limit)) =
    FileIsRefused size src names got r file (TooLarge file limit) × (limit ≡ 2 ^ 30)
    × (r.read ≡ 2 ^ 30 + 1)
    × IfTold src.left got (λ contents.
    IsTroubled size contents file ManyBytes × IsReadOf src.left r.read contents r.sources file)
ReadsOver size src names got r (Some NoMemory) = r.read ≡ 0
ReadsOver size src names got r (Some WriteFault) = ⊥
ReadsOver size src names got r (Some (BadLine line)) = ⊥
ReadsOver size src names got r (Some (NotEnabled line)) = ⊥
ReadsOver size src names got r (Some (Unlawful line)) = ⊥
ReadsOver size src names got r (Some (Unfinished seat)) = ⊥
ReadsOver size src names got r (Some (BadLineOf file line)) = ⊥
ReadsOver size src names got r (Some (SharedOf what file line g m)) = ⊥
ReadsOver size src names got r (Some (TwoRunsOf file n g s)) = ⊥
ReadsOver size src names got r (Some (UnlawfulOf file line)) = ⊥
ReadsOver size src names got r (Some AspectFails) = ⊥
ReadsOver size src names got r (Some NotTested) = ⊥
ReadsOver size src names got r (Some NotLinearizable) = ⊥
ReadsOver size src names got r (Some NeverEnded) = ⊥
ReadsOver size src names got r (Some NotFound) = ⊥
ReadsOver size src names got r (Some (Words fault)) = ⊥

-- how a run over files of these names ends: each was read and the text written, or, where out
-- failed, a front of it; else nothing was written. Which text was written is said where each source
-- told its content
abbrev pub EndsOver : {S : Type 0} → ℕ → (List (List ℕ) → List ℕ) → SourceOf S → List (List ℕ)
    → List S → Inputs S → Wrote → Option Fault → Type 0
EndsOver size text src names got r w None =
    IsAllRead size src names got r × IsUnchanged w.faults
    × IfTold src.left got (λ contents. w.written.new ≡ written_with w.written.old (text contents))
EndsOver size text src names got r w (Some WriteFault) =
    IsAllRead size src names got r × Rose w.faults.old w.faults.new
    × IfTold src.left got (λ contents. WrotePart w.written.old w.written.new (text contents))
EndsOver size text src names got r w fault =
    ReadsOver size src names got r fault × IsUnwritten w

-- how a run over no file of the outside ends that is to write this text
abbrev pub EndsWithoutFiles : List ℕ → Wrote → Option Fault → Type 0
EndsWithoutFiles text w None =
    IsUnchanged w.faults × (w.written.new ≡ written_with w.written.old text)
EndsWithoutFiles text w (Some WriteFault) =
    Rose w.faults.old w.faults.new × WrotePart w.written.old w.written.new text
EndsWithoutFiles text w (Some NoMemory) = IsUnwritten w
EndsWithoutFiles text w _ = ⊥

-- A run over one whole file, whose text tells what is to be written. The order of its tests is: the
-- file is got, read, not too large, and then its text is taken line by line.

-- the most bytes of such a file
abbrev pub most_text : ℕ
most_text = 2 ^ 24

-- what the one source told when it was got, its file's content, meets P
abbrev pub IfContent : {S : Type 0} → (S → Option (List ℕ)) → List S → (List ℕ → Type 0) → Type 0
IfContent left got P = All (λ source. IfSome (left source) P) got

-- the file was got, with no fault counted, and nothing else was asked for. Where the table is
-- visible its source told the name's content
pub record IsOneGot {S : Type 0} (src : SourceOf S) (name : List ℕ) (got : List S) (r : Inputs S)
    : Type 0 where
  pub one : (length got ≡ 1) × (length r.sources ≡ 1)
  pub misses : IsUnchanged r.misses
  pub table : r.table.new ≡ option_map (without_name name) r.table.old
  pub fresh : All (λ source. src.faults source ≡ 0) got
  pub told : IfSome r.table.old (λ files.
      IsSome (files name) × All (λ source. src.left source ≡ files name) got)

-- the file was read to its end, which it answered just once, and has no more than the most bytes
pub record FileIsReadWhole {S : Type 0} (src : SourceOf S) (name : List ℕ) (got : List S)
    (r : Inputs S) : Type 0 where
  pub one : IsOneGot src name got r
  pub quiet : All (λ source. src.faults source ≡ 0) r.sources
  pub ended : All (λ source. NothingLeft (src.left source)) r.sources
  pub once : AreReadOut src.ends 1 got r
  pub fits : IfContent src.left got (λ content. length content ≤ most_text)
  pub read : r.read ≡ 0

-- the file was not got, so none was too large
pub record TextMissesFile {S : Type 0} (name : List ℕ) (r : Inputs S) : Type 0 where
  pub none : r.sources ≡ []
  pub rose : Rose r.misses.old r.misses.new
  pub missing : IfSome r.table.old (λ files. files name ≡ None)
  pub table : IsUnchanged r.table
  pub read : r.read ≡ 0

-- a read of the file failed, and no more than the most bytes were read before
pub record IsReadUntil {S : Type 0} (src : SourceOf S) (name : List ℕ) (got : List S) (r : Inputs S)
    : Type 0 where
  pub one : IsOneGot src name got r
  pub failed : All (λ source. src.faults source ≡ 1) r.sources
  pub fits : IfContent src.left got (λ content.
      All (λ source. IsSomeAnd (src.left source) (λ rest. length content ≤ most_text + length rest))
      r.sources)
  pub read : r.read ≡ 0

-- the file has more than the most bytes: one more was read
pub record IsTooLarge {S : Type 0} (src : SourceOf S) (name : List ℕ) (got : List S) (r : Inputs S)
    : Type 0 where
  pub one : IsOneGot src name got r
  pub quiet : All (λ source. src.faults source ≡ 0) r.sources
  pub read : r.read ≡ most_text + 1
  pub bytes : IfContent src.left got (λ content.
      All (λ source. Some (length content)
      ≡ option_map (λ rest. r.read + length rest) (src.left source))
      r.sources)

-- what the file's lines tell meets P
abbrev pub IsTold : {S : Type 0} → TextCommand → (S → Option (List ℕ)) → List S
    → (List ℕ → Type 0) → Type 0
IsTold command left got P = IfContent left got (λ content.
    (text : List ℕ) × Tells command (lines_of content) (Ok text) × P text)

-- how a run over the file of this name ends
abbrev pub EndsWhole : {S : Type 0} → TextCommand → SourceOf S → List ℕ → List S → Inputs S → Wrote
    → Option Fault → Type 0
EndsWhole command src name got r w None =
    FileIsReadWhole src name got r × IsUnchanged w.faults
    × IsTold command src.left got (λ text. w.written.new ≡ written_with w.written.old text)
EndsWhole command src name got r w (Some WriteFault) =
    FileIsReadWhole src name got r × Rose w.faults.old w.faults.new
    × IsTold command src.left got (λ text. WrotePart w.written.old w.written.new text)
EndsWhole command src name got r w (Some (OpenFault file)) =
    (file ≡ 1) × TextMissesFile name r × IsUnwritten w
EndsWhole command src name got r w (Some (ReadFault file)) =
    (file ≡ 1) × IsReadUntil src name got r × IsUnwritten w
EndsWhole command src name got r w (Some (TooLarge file limit)) =
    (file ≡ 1) × (limit ≡ most_text) × IsTooLarge src name got r × IsUnwritten w
EndsWhole command src name got r w (Some NoMemory) =
    (length r.sources ≤ 1) × (r.read ≡ 0) × IsUnwritten w
EndsWhole command src name got r w (Some fault) =
    IsOfText command fault × FileIsReadWhole src name got r
    × IfContent src.left got (λ content. Tells command (lines_of content) (Err fault))
    × IsUnwritten w

-- A run over recordings, whose files are got one after the other, each read to its end before the
-- next is got, and judged together

-- the files of all names were got
pub record HaveAll {S : Type 0} (names : List (List ℕ)) (r : Inputs S) : Type 0 where
  pub all : length r.sources ≡ length names
  pub misses : IsUnchanged r.misses
  pub table : r.table.new ≡ option_map (without_names names) r.table.old
  pub read : r.read ≡ 0

-- what recordings of files with these names tell of queues with this room, where that is known,
-- meets P, where each source told its own when it was got
abbrev pub ReportMeets : {S : Type 0} → (S → Option (List ℕ)) → List (List ℕ) → Option ℕ → List S
    → (Judged → Type 0) → Type 0
ReportMeets left names room got P =
    IfTold left got (λ contents. (judged : Judged) × IsJudged names room contents judged × P judged)

-- what was asked for before this fault: the files of all names where it is of several files, or of
-- the merged history. Where it is of one file each that was asked for was there; that its own was
-- the last of them tells `AreReadUntil`
abbrev pub AreGotFor : {S : Type 0} → List (List ℕ) → Inputs S → JudgeFault → Type 0
AreGotFor names r (judge.BadLine file line) = IsUnchanged r.misses × (r.read ≡ 0)
AreGotFor names r (judge.ReadFault file) = IsUnchanged r.misses × (r.read ≡ 0)
AreGotFor names r (judge.TooLarge file) = IsUnchanged r.misses × (r.read ≡ 0)
AreGotFor names r _ = HaveAll names r

-- recordings were refused: sources were got and read so far, and this is at fault in what they told
pub record IsRefusedBy {S : Type 0} (src : SourceOf S) (names : List (List ℕ)) (got : List S)
    (r : Inputs S) (refused : JudgeFault) : Type 0 where
  pub got_for : AreGotFor names r refused
  pub until : AreReadUntil src.faults src.ends src.left got r.sources refused
  pub cause : IfTold src.left got (λ contents. IsCause (length names == 1) contents refused)

-- a source was not got: those before it were read to their ends, and nothing is at fault in them
pub record JudgeMissesFile {S : Type 0} (src : SourceOf S) (names : List (List ℕ)) (got : List S)
    (r : Inputs S) (file : ℕ) : Type 0 where
  pub next : file ≡ length r.sources + 1
  pub within : length r.sources < length names
  pub missed : HasMissed names r
  pub whole : AreReadWhole src.faults src.ends src.left (length r.sources) got r.sources
  pub sound : IfTold src.left got (λ contents. AreSoundBefore (length names == 1) contents file)
  pub read : r.read ≡ 0

-- at which fault a run over recordings of these names ends that made no report of them
abbrev pub EndsUnjudged : {S : Type 0} → SourceOf S → List (List ℕ) → List S → Inputs S → Fault
    → Type 0
EndsUnjudged src names got r (OpenFault file) = JudgeMissesFile src names got r file
EndsUnjudged src names got r NoMemory =
    (length r.sources ≤ length names) × AreQuiet src.faults got r.sources × (r.read ≡ 0)
EndsUnjudged src names got r fault =
    (refused : JudgeFault) × (fault ≡ fault_of_judge refused) × IsRefusedBy src names got r refused

-- how a run ends whose report was written, by the worst that a line of it says: a strict one with a
-- fault where a line fails, or none does and one isn't tested
abbrev pub end_of_report : Bool → Finding → Option Fault
end_of_report true says.Fails = Some AspectFails
end_of_report true says.NotTested = Some NotTested
end_of_report strict worst = None

-- every source was read to its end, no read failed, and the whole report was written, which makes
-- the run end so
pub record WroteReport {S : Type 0} (src : SourceOf S) (room : Option ℕ) (strict : Bool)
    (names : List (List ℕ)) (got : List S) (r : Inputs S) (w : Wrote) (end : Option Fault)
    : Type 0 where
  pub all : HaveAll names r
  pub whole : AreReadWhole src.faults src.ends src.left (length names) got r.sources
  pub faults : IsUnchanged w.faults
  pub report : ReportMeets src.left names room got (λ judged.
      (w.written.new ≡ written_with w.written.old judged.text)
      × (end ≡ end_of_report strict judged.worst))

-- so, but that a write failed behind a front of the report
pub record WroteReportPart {S : Type 0} (src : SourceOf S) (room : Option ℕ)
    (names : List (List ℕ)) (got : List S) (r : Inputs S) (w : Wrote) : Type 0 where
  pub all : HaveAll names r
  pub whole : AreReadWhole src.faults src.ends src.left (length names) got r.sources
  pub rose : Rose w.faults.old w.faults.new
  pub report : ReportMeets src.left names room got (λ judged.
      WrotePart w.written.old w.written.new judged.text)

-- For private calls: the report was written, which makes the run end so, or a write failed behind a
-- front of it
abbrev pub IsWritten : Bool → Judged → Wrote → Option Fault → Type 0
IsWritten strict made w end =
    ((w.written.new ≡ written_with w.written.old made.text) × IsUnchanged w.faults
    × (end ≡ end_of_report strict made.worst))
    ⊎ ((end ≡ Some WriteFault) × Rose w.faults.old w.faults.new
    × WrotePart w.written.old w.written.new made.text)

-- how a run over recordings of these names ends
abbrev pub EndsJudged : {S : Type 0} → SourceOf S → Option ℕ → Bool → List (List ℕ) → List S
    → Inputs S → Wrote → Option Fault → Type 0
EndsJudged src room strict names got r w None = WroteReport src room strict names got r w None
EndsJudged src room strict names got r w (Some AspectFails) =
    (strict ≡ true) × WroteReport src room strict names got r w (Some AspectFails)
EndsJudged src room strict names got r w (Some NotTested) =
    (strict ≡ true) × WroteReport src room strict names got r w (Some NotTested)
EndsJudged src room strict names got r w (Some WriteFault) =
    WroteReportPart src room names got r w
EndsJudged src room strict names got r w (Some fault) =
    EndsUnjudged src names got r fault × IsUnwritten w

-- every source was read to its end, no read failed, and what is told where an order is asked for
-- meets P, where each source told its own content when it was got
pub record OrderMeets {S : Type 0} (src : SourceOf S) (names : List (List ℕ)) (got : List S)
    (r : Inputs S) (P : Ordered → Type 0) : Type 0 where
  pub all : HaveAll names r
  pub whole : AreReadWhole src.faults src.ends src.left (length names) got r.sources
  pub told : IfTold src.left got (λ contents.
      (ordered : Ordered) × IsOrderedIn (length names == 1) contents ordered × P ordered)

-- at which fault a run over recordings of these names ends that found no order of them
abbrev pub EndsUnordered : {S : Type 0} → SourceOf S → List (List ℕ) → List S → Inputs S → Fault
    → Type 0
EndsUnordered src names got r NotLinearizable =
    OrderMeets src names got r (λ ordered. ordered ≡ order.NotLinearizable)
EndsUnordered src names got r NeverEnded =
    OrderMeets src names got r (λ ordered. ordered ≡ order.NeverEnded)
EndsUnordered src names got r NotFound =
    OrderMeets src names got r (λ ordered. ordered ≡ order.NotFound)
EndsUnordered src names got r fault = EndsUnjudged src names got r fault

-- the orders were found, and their text meets P
abbrev pub OrderTextMeets : (List ℕ → Type 0) → Ordered → Type 0
OrderTextMeets P ordered = (text : List ℕ) × (ordered ≡ order.Order text) × P text

-- how a run ends that is asked for an order of recordings of these names
abbrev pub EndsOrdered : {S : Type 0} → SourceOf S → List (List ℕ) → List S → Inputs S → Wrote
    → Option Fault → Type 0
EndsOrdered src names got r w None =
    IsUnchanged w.faults × OrderMeets src names got r (OrderTextMeets (λ text.
    w.written.new ≡ written_with w.written.old text))
EndsOrdered src names got r w (Some WriteFault) =
    Rose w.faults.old w.faults.new × OrderMeets src names got r (OrderTextMeets (λ text.
    WrotePart w.written.old w.written.new text))
EndsOrdered src names got r w (Some fault) =
    EndsUnordered src names got r fault × IsUnwritten w

-- how a run over recordings of these names ends, by whether it is asked for an order
abbrev pub EndsRecorded : {S : Type 0} → SourceOf S → Option ℕ → Bool → Bool → List (List ℕ)
    → List S → Inputs S → Wrote → Option Fault → Type 0
EndsRecorded src room strict true names got r w end = EndsOrdered src names got r w end
EndsRecorded src room strict false names got r w end =
    EndsJudged src room strict names got r w end

-- For private calls: what is to be written of what was read, which is a report, or orders
abbrev pub IsToldOf : Option ℕ → Bool → List (List ℕ) → Recording → Judged → Type 0
IsToldOf room true names recorded told = IsOrdered recorded (order.Order told.text)
IsToldOf room false names recorded told = IsReported names room recorded told

-- or there is nothing to write, for this fault
abbrev pub IsUntoldOf : Bool → Recording → Fault → Type 0
IsUntoldOf true recorded NotLinearizable = IsOrdered recorded order.NotLinearizable
IsUntoldOf true recorded NeverEnded = IsOrdered recorded order.NeverEnded
IsUntoldOf true recorded NotFound = IsOrdered recorded order.NotFound
IsUntoldOf ordering recorded fault =
    (refused : JudgeFault) × (fault ≡ fault_of_judge refused) × IsCauseIn recorded refused

-- For private calls: at which fault such a run ends that has nothing to write
abbrev pub EndsUntold : {S : Type 0} → SourceOf S → Bool → List (List ℕ) → List S → Inputs S
    → Fault → Type 0
EndsUntold src true names got r fault = EndsUnordered src names got r fault
EndsUntold src false names got r fault = EndsUnjudged src names got r fault

-- what it is to write, by the contents of the files
abbrev pub IsToWrite : Option ℕ → Bool → List (List ℕ) → List (List ℕ) → Judged → Type 0
IsToWrite room true names contents told =
    IsOrderedIn (length names == 1) contents (order.Order told.text)
IsToWrite room false names contents told = IsJudged names room contents told

-- nothing was got, and nothing that was asked for was missing, but where the count of misses stands
-- still
abbrev pub NoSourceCame : {S : Type 0} → Inputs S → Type 0
NoSourceCame r = IsUnchanged r.table × IsUnchanged r.misses × (r.sources ≡ []) × (r.read ≡ 0)

-- how a run ends that is asked for this: refused words, files, a generated file, recordings, one
-- whole file, or files that go through stages, whose payloads have at most as many bytes as the
-- size that is asked for. `got` are the sources as they were when they were got
abbrev pub EndsAs : {S : Type 0} → SourceOf S → Result Asked WordsFault → List S → Inputs S → Wrote
    → Option Fault → Type 0
EndsAs src (Err fault) got r w end =
    NoSourceCame r × IsUnwritten w × ((end ≡ Some (Words fault)) ⊎ (end ≡ Some NoMemory))
EndsAs src (Ok (run a)) got r w end =
    HasGotSources src a.files got r
    × EndsOver most_payload
    (one_thread_output a.topics) src a.files got r w end
EndsAs src (Ok (generated a)) got r w end =
    NoSourceCame r × EndsWithoutFiles (self_summary a.seed a.lines) w end
EndsAs src (Ok (judged a)) got r w end =
    HasGotSources src a.files got r
    × EndsRecorded src a.room a.strict a.order a.files got r w end
EndsAs src (Ok (whole a)) got r w end =
    EndsWhole a.command src a.file got r w end
EndsAs src (Ok (staged a)) got r w end =
    HasGotSources src a.files got r
    × EndsOver a.size one_thread_stage_output src a.files got r w end

-- nothing stood in the way of a run over these files: each was got, no count rose, each told its
-- content, and none has trouble
pub record IsCalm {S : Type 0} (size : ℕ) (src : SourceOf S) (names : List (List ℕ)) (got : List S)
    (r : Inputs S) (w : Wrote) : Type 0 where
  pub all : length r.sources ≡ length names
  pub misses : ¬ Rose r.misses.old r.misses.new
  pub writes : ¬ Rose w.faults.old w.faults.new
  pub quiet : All (λ source. src.faults source ≡ 0) r.sources
  pub visible : IsSome (all_left src.left got)
  pub sound : IfTold src.left got (λ contents.
      All (λ content. file_trouble size false content ≡ None) contents)

-- nothing stood in the way of a run over one whole file: it was got, no count rose, it told its
-- content, and that is not too large
pub record IsCalmText {S : Type 0} (src : SourceOf S) (got : List S) (r : Inputs S) (w : Wrote)
    : Type 0 where
  pub misses : ¬ Rose r.misses.old r.misses.new
  pub writes : ¬ Rose w.faults.old w.faults.new
  pub quiet : All (λ source. src.faults source ≡ 0) r.sources
  pub visible : All (λ source. IsSome (src.left source)) got
  pub fits : IfContent src.left got (λ content. length content ≤ most_text)

-- it ended with its output, for want of memory, or with a fault that the text has
abbrev pub IsOfTextAlone : TextCommand → Option Fault → Type 0
IsOfTextAlone command end =
    (end ≡ None) ⊎ ((end ≡ Some NoMemory) ⊎ IsSomeAnd end (IsOfText command))
