-- What contracts see of a framer, and what its calls do.
use Rattle.std.specs.Prelude.{◌≡◌, ℕ, ◌+◌, ◌-◌, ◌*◌, ◌<◌, ◌≤◌, Bool, false, IsTrue, IfSome, List}
use Rattle.std.specs.Prelude.{[], ◌++◌, Option, Result, Ok, Err, length, map, max, if◌then◌else◌}
use Rattle.std.specs.Option.{option_map, option_to_list}
use Rattle.scq_outside.specs.Exports.{Rose}
use Rattle.scq_frames.specs.declared.message.Message.{Message}
use Rattle.scq_frames.specs.declared.fault.FrameFault.{FrameFault}
use Rattle.scq_frames.specs.Text.{messages_after}
use Rattle.scq_frames.specs.Numbered.{numbered}

-- a framer as contracts see it
pub record Framing : Type 0 where
  -- its file's number, and the most bytes that a payload and the file may have
  pub file : ℕ
  pub size : ℕ
  pub most : ℕ
  -- how many lines were passed
  pub line : ℕ
  -- the bytes that were read and not yet given, and how many were read in all
  pub held : List ℕ
  pub read : ℕ
  -- whether the end was read, and whether a call failed
  pub ended : Bool
  pub failed : Bool
  -- the sum, over the messages given, of one more than the larger of 1 and the payload's length
  pub weight : ℕ

-- the bytes ahead of a framer whose source has these left: once it read the end it asks for none
abbrev pub bytes_ahead : Framing → List ℕ → List ℕ
bytes_ahead f left = f.held ++ (if f.ended then [] else left)

-- the messages ahead of it, with topics numbered so
abbrev pub messages_ahead : (List ℕ → ℕ) → Framing → List ℕ → List Message
messages_ahead number f left =
    map (numbered f.file number) (messages_after f.line (bytes_ahead f left))

-- the messages ahead, where what the source has left is visible
abbrev pub visible_ahead : (List ℕ → ℕ) → Framing → Option (List ℕ) → Option (List Message)
visible_ahead number f left = option_map (messages_ahead number f) left

-- how many bytes there are in all, read and left, where those left are visible
abbrev pub visible_size : Framing → Option (List ℕ) → Option ℕ
visible_size f left = option_map (λ bytes. f.read + length bytes) left

-- nothing is left, where that is visible
abbrev pub NothingLeft : Option (List ℕ) → Type 0
NothingLeft left = IfSome left (λ bytes. bytes ≡ [])

-- what a message adds to the weight
abbrev pub weight_of : Message → ℕ
weight_of m = max 1 (length m.payload) + 1

-- the message that an answer gives
abbrev pub given_by : Result (Option Message) FrameFault → List Message
given_by (Ok given) = option_to_list given
given_by (Err fault) = []

-- a message that was given is of the framer's file, its line is the last one passed, its topic is
-- one of so many or undeclared, and its payload is no longer than may be
pub record IsNext (known : ℕ) (old new : Framing) (m : Message) : Type 0 where
  pub file : m.file ≡ old.file
  pub above : old.line < m.line
  pub line : new.line ≡ m.line
  pub weight : new.weight ≡ old.weight + weight_of m
  pub topic : m.topic ≤ known
  pub fits : length m.payload ≤ old.size

-- a call's source answered its end once where the framer came to know it in that call, and else not
-- at all: none is read again behind its end
pub record EndsOnce (was is : Bool) (before after : ℕ) : Type 0 where
  pub rose : was ≡ false → IsTrue is → Rose before after
  pub going : is ≡ false → after ≡ before
  pub over : IsTrue was → after ≡ before

-- a framer of a file that was not read yet
abbrev pub fresh : ℕ → ℕ → ℕ → Framing
fresh file size most = record {
  file = file;
  size = size;
  most = most;
  line = 0;
  held = [];
  read = 0;
  ended = false;
  failed = false;
  weight = 0;
}

-- a read put these many bytes, at most `most`, behind those held, and the source has that much less
-- left
pub record Reads (most : ℕ) (old new : List ℕ) (before after : Option (List ℕ)) (k : ℕ)
    : Type 0 where
  pub few : k ≤ most
  pub bytes : List ℕ
  pub held : new ≡ old ++ bytes
  pub count : length bytes ≡ k
  pub moved : before ≡ option_map (λ rest. bytes ++ rest) after
  pub end : k ≡ 0 → NothingLeft before

-- what a read did: it put these bytes behind those held, and the source has that much less left
pub record Fetched (old new : Framing) (before after : Option (List ℕ)) : Type 0 where
  pub bytes : List ℕ
  pub held : new.held ≡ old.held ++ bytes
  pub count : new.read ≡ old.read + length bytes
  pub moved : before ≡ option_map (λ rest. bytes ++ rest) after

-- how much a framer may still do without giving a message: it falls with each line and each read
abbrev pub work_left : Framing → ℕ
work_left f = 2 * (f.most - f.read) + length f.held + (if f.ended then 0 else 1)
