-- How the sources of recordings were read. They have a count of faults and one of the ends that
-- they answered, and what they have left may be visible
use Rattle.std.specs.Prelude.{◌≡◌, ◌⊎◌, ℕ, ◌-◌, ◌<◌, ◌≤◌, Bool, List, Option, IfSome, [], length}
use Rattle.std.specs.Prelude.{slice_index_or, Ok, Err}
use Rattle.scq_outside.specs.Exports.{Rose, Took}
use Rattle.scq_judge.specs.Files.{NoneIsLarge, HaveContents, IsFile, most_bytes}
use Rattle.scq_judge.specs.Judged.{IsCause}
use Rattle.scq_judge.specs.Recording.{Recording, AllAreOfFiles, after_file, recording_of}
use Rattle.scq_judge.specs.declared.judging.JudgeFault.{JudgeFault}
use Rattle.scq_judge.specs.declared.judging.JudgeFault.TheVariants.{BadLine, Shared, TwoRuns}
use Rattle.scq_judge.specs.declared.judging.JudgeFault.TheVariants.{Unlawful, ReadFault, TooLarge}
use Rattle.scq_judge.specs.declared.judging.JudgeFault.TheVariants.{NoMemory}

-- a source gave some bytes, and has the others left. At most one of its reads failed, and its count
-- of faults says so
pub record HasGiven {S : Type 0} (faults : S → ℕ) (left : S
    → Option (List ℕ)) (old new : S) : Type 0 where
  pub bytes : List ℕ
  pub took : Took bytes (left old) (left new)
  pub counted : (faults new ≡ faults old) ⊎ Rose (faults old) (faults new)

-- it was read to its end, which it answered just once, and no read failed
pub record IsReadWhole {S : Type 0} (faults end_count : S → ℕ) (left : S
    → Option (List ℕ)) (old new : S) : Type 0 where
  pub ended : IfSome (left new) (λ rest. rest ≡ [])
  pub once : Rose (end_count old) (end_count new)
  pub kept : faults new ≡ faults old

-- what is so of each of so many first sources, before and after
abbrev pub OfEach : {S : Type 0} → ℕ → (S → S → Type 0) → List S → List S → Type 0
OfEach {S} count R olds news =
    (k : ℕ) (d : S) → k < count → R (slice_index_or olds k d) (slice_index_or news k d)

-- so many first sources were read to their ends
abbrev pub AreReadWhole : {S : Type 0} → (S → ℕ) → (S → ℕ) → (S → Option (List ℕ)) → ℕ → List S
    → List S → Type 0
AreReadWhole faults end_count left count olds news =
    OfEach count (IsReadWhole faults end_count left) olds news

-- no read failed
abbrev pub AreQuiet : {S : Type 0} → (S → ℕ) → List S → List S → Type 0
AreQuiet faults olds news = OfEach (length olds) (λ old new. faults new ≡ faults old) olds news

-- a read of this file failed
abbrev pub HasFailed : {S : Type 0} → (S → ℕ) → List S → List S → ℕ → Type 0
HasFailed {S} faults olds news file =
    (d : S) → Rose (faults (slice_index_or olds (file - 1) d))
    (faults (slice_index_or news (file - 1) d))

-- sources were got up to that of this file, and those before it were read to their ends
pub record AreReadBefore {S : Type 0} (faults end_count : S → ℕ) (left : S
    → Option (List ℕ)) (olds news : List S) (file : ℕ) : Type 0 where
  pub first : 0 < file
  pub last : file ≡ length olds
  pub whole : AreReadWhole faults end_count left (file - 1) olds news

-- how far sources were got and read where recordings were refused: those before the file of the
-- fault to their ends, and none behind it was got; and all of them where an event is out of place,
-- or shares with another what it may not, and where two files are of two runs
abbrev pub AreReadUntil : {S : Type 0} → (S → ℕ) → (S → ℕ) → (S → Option (List ℕ)) → List S → List S
    → JudgeFault → Type 0
AreReadUntil faults end_count left olds news (BadLine file line) =
    AreReadBefore faults end_count left olds news file × AreQuiet faults olds news
AreReadUntil faults end_count left olds news (Shared what file line other_file other_line) =
    IsFile (length olds) file × IsFile (length olds) other_file
    × AreReadWhole faults end_count left (length olds) olds news
AreReadUntil faults end_count left olds news (TwoRuns file run other_file other_run) =
    IsFile (length olds) file × IsFile (length olds) other_file
    × AreReadWhole faults end_count left (length olds) olds news
AreReadUntil faults end_count left olds news (Unlawful file line) =
    IsFile (length olds) file × AreReadWhole faults end_count left (length olds) olds news
AreReadUntil faults end_count left olds news (ReadFault file) =
    AreReadBefore faults end_count left olds news file × HasFailed faults olds news file
AreReadUntil faults end_count left olds news (TooLarge file) =
    AreReadBefore faults end_count left olds news file × AreQuiet faults olds news
AreReadUntil faults end_count left olds news NoMemory = AreQuiet faults olds news

-- what a reader has: whether its file is the only one, how many it has read, and what they say
pub record Progress : Type 0 where
  pub lone : Bool
  pub files : ℕ
  pub recorded : Recording

-- sources that were got so were read by a reader, one after the other, each to its end, and what
-- they told is what it has
pub record HaveBeenRead {S : Type 0} (faults end_count : S → ℕ) (left : S
    → Option (List ℕ)) (olds news : List S) (reader : Progress) : Type 0 where
  pub count : reader.files ≡ length olds
  pub many : length news ≡ length olds
  pub told : (contents : List (List ℕ)) → HaveContents left olds contents
      → NoneIsLarge contents × (recording_of reader.lone contents ≡ Ok reader.recorded)
  pub files : AllAreOfFiles (length olds) reader.recorded
  pub whole : AreReadWhole faults end_count left (length olds) olds news
  pub given : OfEach (length olds) (HasGiven faults left) olds news

-- a fault of one file, or want of memory
abbrev pub IsOfOneFile : JudgeFault → Type 0
IsOfOneFile (BadLine file line) = Unit {0}
IsOfOneFile (ReadFault file) = Unit {0}
IsOfOneFile (TooLarge file) = Unit {0}
IsOfOneFile NoMemory = Unit {0}
IsOfOneFile _ = ⊥

-- the reading of these sources stopped at the last of them, by this fault
pub record ReadingStopped {S : Type 0} (faults end_count : S → ℕ) (left : S
    → Option (List ℕ)) (lone : Bool) (olds news : List S) (fault : JudgeFault) : Type 0 where
  pub many : length news ≡ length olds
  pub own : IsOfOneFile fault
  pub cause : (contents : List (List ℕ)) → HaveContents left olds contents
      → IsCause lone contents fault
  pub until : AreReadUntil faults end_count left olds news fault
  pub given : OfEach (length olds) (HasGiven faults left) olds news

-- For private calls: the count of faults of the one source that was read rose exactly where a read
-- of it failed
abbrev pub CountsFault : JudgeFault → ℕ → ℕ → Type 0
CountsFault (ReadFault file) old new = Rose old new
CountsFault _ old new = new ≡ old

-- a file of which this was left, where that is visible, was read behind what was read before, and
-- isn't too large
pub record FileIsAdded (file : ℕ) (lone : Bool) (before : Recording)
    (left : Option (List ℕ)) (after : Recording) : Type 0 where
  pub read : IfSome left (λ content. after_file file lone before content ≡ Ok after)
  pub small : IfSome left (λ content. length content ≤ most_bytes)

-- a line of the file is the first that isn't understood, and so is told of its number; or memory
-- ran out
abbrev pub IsLineFault : ℕ → (ℕ → Type 0) → JudgeFault → Type 0
IsLineFault file IsBad (BadLine f line) = (f ≡ file) × IsBad line
IsLineFault file IsBad NoMemory = Unit {0}
IsLineFault file IsBad _ = ⊥

-- the fault of a file of which this was left, where that is visible, behind what was read before
abbrev pub IsFileFault : ℕ → Bool → Recording → Option (List ℕ) → JudgeFault → Type 0
IsFileFault file lone before left (BadLine f line) =
    (f ≡ file) × IfSome left (λ content. after_file file lone before content ≡ Err line)
IsFileFault file lone before left (ReadFault f) = f ≡ file
IsFileFault file lone before left (TooLarge f) =
    (f ≡ file) × IfSome left (λ content. most_bytes < length content)
IsFileFault file lone before left NoMemory = Unit {0}
IsFileFault file lone before left _ = ⊥
