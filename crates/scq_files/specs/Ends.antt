-- How the reading of all files ended: the fault of each, where it stopped, and the messages that
-- they gave. Files are numbered from 1.
use Rattle.std.specs.Prelude.{◌≡◌, ◌⊎◌, ℕ, ◌+◌, ◌-◌, ◌%◌, ◌<◌, ◌≤◌, Bool, true, false, List, []}
use Rattle.std.specs.Prelude.{◌∷◌, ◌++◌, Option, Some, None, IfSome, option_and_then, length, map}
use Rattle.std.specs.Prelude.{slice_index_or, All}
use Rattle.std.specs.Option.{option_map}
use Rattle.scq_outside.specs.Exports.{Rose}
use Rattle.scq_topics.specs.declared.kind.Kind.{Kind}
use Rattle.scq_topics.specs.Exports.{topic_of}
use Rattle.scq_frames.specs.declared.fault.FrameFault.{FrameFault}
use Rattle.scq_frames.specs.declared.fault.FrameFault.TheVariants as frame
use Rattle.scq_frames.specs.declared.message.Message.{Message}
use Rattle.scq_frames.specs.Exports.{numbered, messages_of}
use Rattle.scq_files.specs.Files.{OfEachFile}
use Rattle.scq_files.specs.Reading.{AreOf, EndsSo, IsWhole, IsStopped, SourceOf}
use Rattle.scq_files.specs.declared.own_file.FileEnd.{FileEnd}
use Rattle.scq_files.specs.declared.own_file.FileEnd.TheVariants.{Unread, Whole, Stopped}

-- the fault of a file by how its reading ended. One that nobody read counts as want of memory: its
-- worker left it.
abbrev pub end_fault : ℕ → FileEnd → Option (ℕ × FrameFault)
end_fault file Unread = Some (file, frame.NoMemory)
end_fault file Whole = None
end_fault file (Stopped fault) = Some (file, fault)

-- whether the reading of a file stopped for want of memory, or because its handler stopped, which
-- counts as that. One that nobody read did not begin.
abbrev pub wanted_memory : FileEnd → Bool
wanted_memory Unread = false
wanted_memory Whole = false
wanted_memory (Stopped frame.ReadFault) = false
wanted_memory (Stopped (frame.TooLong line len)) = false
wanted_memory (Stopped (frame.TooLarge bytes)) = false
wanted_memory (Stopped frame.NoMemory) = true

-- a source gave some bytes, and has the others left. At most one of its reads failed, and its count
-- of faults says so
pub record HasMoved {S : Type 0} (src : SourceOf S) (old new : S) : Type 0 where
  pub bytes : List ℕ
  pub moved : src.left old ≡ option_map (λ rest. bytes ++ rest) (src.left new)
  pub counted : (src.faults new ≡ src.faults old) ⊎ Rose (src.faults old) (src.faults new)

-- the files before this one were read to their ends, and the reading of this one stopped at the
-- fault
pub record ReadingStopsAt {S : Type 0} (size : ℕ) (src : SourceOf S) (olds news : List S) (file : ℕ)
    (fault : FrameFault) : Type 0 where
  pub first : 0 < file
  pub last : file ≤ length olds
  pub before : (k : ℕ) (d : S) → k + 1 < file
      → IsWhole size src (slice_index_or olds k d) (slice_index_or news k d)
  pub cause : (d : S)
      → IsStopped size src (slice_index_or olds (file - 1) d)
      (slice_index_or news (file - 1) d) fault

-- the source is as an unread one, or as one whose reading ended otherwise than for want of memory
pub record EndsFed {S : Type 0} (size : ℕ) (src : SourceOf S) (old new : S) : Type 0 where
  pub end : FileEnd
  pub ends : EndsSo size src old new end
  pub fed : wanted_memory end ≡ false

-- so it is of each source
abbrev pub AllEndFed : {S : Type 0} → ℕ → SourceOf S → List S → List S → Type 0
AllEndFed {S} size src olds news =
    (k : ℕ) (d : S) → k < length olds
    → EndsFed size src (slice_index_or olds k d) (slice_index_or news k d)

-- no worker read a file of its own behind one at which it stopped. How the reading of each file
-- ended stands in the order of the files. File k, from 0, is that of worker k mod their number
pub record StopsAtFaults {S : Type 0} (workers size : ℕ) (src : SourceOf S) (olds news : List S)
    : Type 0 where
  pub end_of : List FileEnd
  pub count : length end_of ≡ length olds
  pub ends : (k : ℕ) (d : S) (e : FileEnd) → k < length olds
      → EndsSo size src (slice_index_or olds k d) (slice_index_or news k d)
      (slice_index_or end_of k e)
  pub stops : (i j : ℕ) (e : FileEnd) (fault : FrameFault) → i < j → j < length olds
      → i % workers ≡ j % workers → slice_index_or end_of i e ≡ Stopped fault
      → slice_index_or end_of j e ≡ Unread

-- what all sources have left, where that of each is visible
abbrev pub all_left : {S : Type 0} → (S → Option (List ℕ)) → List S → Option (List (List ℕ))
all_left left [] = Some []
all_left left (source ∷ sources) =
    option_and_then (λ content.
    option_map (λ more. content ∷ more) (all_left left sources)) (left source)

-- messages that a file may have given: on declared topics or the one of all others, in order, with
-- payloads of at most `size` bytes; where its bytes are visible, just its own
pub record FileGave {S : Type 0} (topics : List (List ℕ × Kind)) (size : ℕ)
    (left : S → Option (List ℕ)) (file : ℕ) (source : S) (given : List Message) : Type 0 where
  pub of : AreOf (length topics) file 0 given
  pub short : All (λ m. length m.payload ≤ size) given
  pub all : IfSome (left source) (λ bytes.
      given ≡ map (numbered file (topic_of topics)) (messages_of bytes))

-- messages that each of the files with these sources may have given; the first has this number
abbrev pub AreGiven : {S : Type 0} → List (List ℕ × Kind) → ℕ → (S → Option (List ℕ)) → ℕ → List S
    → List (List Message) → Type 0
AreGiven topics size left file sources given =
    OfEachFile (λ f own. FileGave topics size left f.0 f.1 own) file sources given

-- the messages of each file where these are the files' contents
abbrev pub messages_in : List (List ℕ × Kind) → ℕ → List (List ℕ) → List (List Message)
messages_in topics file [] = []
messages_in topics file (content ∷ more) =
    map (numbered file (topic_of topics)) (messages_of content) ∷ messages_in topics (file + 1) more
