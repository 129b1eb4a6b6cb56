-- How the reading of a file ended, by its source before and after. Sources have a count of faults
-- and one of the ends that they answered, and what they have left may be visible. A payload may
-- have `size` bytes.
use Rattle.std.specs.Prelude.{◌≡◌, ◌≢◌, ℕ, ◌+◌, ◌^◌, ◌<◌, ◌≤◌, List, [], ◌∷◌, Option, Some, None}
use Rattle.std.specs.Prelude.{IfSome, length, map, max, sum_by, All}
use Rattle.std.specs.Option.{option_map}
use Rattle.scq_outside.specs.Exports.{Rose}
pub use Rattle.scq_outside.specs.declared.source.Source.{Ghosts as SourceOf}
use Rattle.scq_topics.specs.declared.kind.Kind.{Kind}
use Rattle.scq_topics.specs.Exports.{topic_of}
use Rattle.scq_frames.specs.declared.fault.FrameFault.{FrameFault}
use Rattle.scq_frames.specs.declared.fault.FrameFault.TheVariants.{ReadFault, TooLong, TooLarge}
use Rattle.scq_frames.specs.declared.message.Message.{Message}
use Rattle.scq_frames.specs.Exports.{NothingLeft, numbered, messages_of}
use Rattle.scq_frames.specs.Judged.{Judged}
use Rattle.scq_files.specs.declared.own_file.FileEnd.{FileEnd}
use Rattle.scq_files.specs.declared.own_file.FileEnd.TheVariants.{Unread, Whole, Stopped}

-- it was read to its end, which it answered just once, and nothing is wrong with it where its bytes
-- are visible
pub record IsWhole {S : Type 0} (size : ℕ) (src : SourceOf S) (old new : S) : Type 0 where
  pub judged : Judged size (src.left old) (src.left new) None
  pub ended : NothingLeft (src.left new)
  pub once : Rose (src.ends old) (src.ends new)
  pub kept : src.faults new ≡ src.faults old

-- the reading stopped at this fault: of reading, where the source counted one more, and else none.
-- A payload that is too long is longer than `size`, a file that is too large gave 2^30 + 1 bytes
pub record IsStopped {S : Type 0} (size : ℕ) (src : SourceOf S) (old new : S) (fault : FrameFault)
    : Type 0 where
  pub judged : Judged size (src.left old) (src.left new) (Some fault)
  pub rose : fault ≡ ReadFault → Rose (src.faults old) (src.faults new)
  pub kept : fault ≢ ReadFault → src.faults new ≡ src.faults old
  pub long : (line len : ℕ) → fault ≡ TooLong line len → (0 < line) × (size < len)
  pub large : (bytes : ℕ) → fault ≡ TooLarge bytes
      → (bytes ≡ 2 ^ 30 + 1)
      × (option_map length (src.left old) ≡ option_map (λ rest. bytes + length rest) (src.left new))

-- it ended so
abbrev pub EndsSo : {S : Type 0} → ℕ → SourceOf S → S → S → FileEnd → Type 0
EndsSo size src old new Unread = new ≡ old
EndsSo size src old new Whole = IsWhole size src old new
EndsSo size src old new (Stopped fault) = IsStopped size src old new fault

-- the messages that were given of a file with this number: none of an unread one, and where its
-- bytes are visible and all were read, all of them
abbrev pub GaveAll : List (List ℕ × Kind) → ℕ → Option (List ℕ) → FileEnd → List Message → Type 0
GaveAll topics file content Whole given =
    IfSome content (λ bytes. given ≡ map (numbered file (topic_of topics)) (messages_of bytes))
GaveAll topics file content Unread given = given ≡ []
GaveAll topics file content (Stopped fault) given = Unit {0}

-- messages of this file on known topics, whose lines rise from above this one
abbrev pub AreOf : ℕ → ℕ → ℕ → List Message → Type 0
AreOf known file line [] = Unit {0}
AreOf known file line (m ∷ ms) =
    (m.file ≡ file) × (line < m.line) × (m.topic ≤ known) × AreOf known file m.line ms

-- how many parts a message may have at most
abbrev pub most_parts : Message → ℕ
most_parts m = max 1 (length m.payload)

-- what is known of a file by how it ended: its source before and after, and the messages that it
-- gave. Together they have at most 2 ^ 30 parts: each message adds one more than the parts that it
-- may have to its framer's sum, which is at most 2 ^ 30 + 1.
pub record IsRead {S : Type 0} (topics : List (List ℕ × Kind)) (size : ℕ) (src : SourceOf S)
    (file : ℕ) (old new : S) (given : List Message) (end : FileEnd) : Type 0 where
  pub ends : EndsSo size src old new end
  pub gave : GaveAll topics file (src.left old) end given
  pub all : AreOf (length topics) file 0 given
  pub short : All (λ m. length m.payload ≤ size) given
  pub few : sum_by most_parts given ≤ 2 ^ 30
