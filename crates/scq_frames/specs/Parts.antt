-- The parts in which a message goes through a queue: each has at most so many bytes of its payload.
-- Parts are numbered from 1, and an empty payload has one.
use Rattle.std.specs.Prelude.{ℕ, ◌-◌, ◌*◌, ◌<◌, ◌≤◌, List, length, take, drop, map, max}
use Rattle.std.specs.Int.{div_ceil}
use Rattle.std.specs.List.{range_with_len}
use Rattle.scq_frames.specs.declared.message.Message.{Message}

-- a part of a message: the file, line and topic of the message, the part's number, how many parts
-- the message has, and the part's bytes
pub record Part : Type 0 where
  pub file : ℕ
  pub line : ℕ
  pub topic : ℕ
  pub part : ℕ
  pub parts : ℕ
  pub payload : List ℕ

-- a part's number: at least 1, and at most how many there are
pub record IsNumbered (part parts : ℕ) : Type 0 where
  pub first : 0 < part
  pub last : part ≤ parts

-- how many parts a payload has
abbrev pub parts_of : ℕ → List ℕ → ℕ
parts_of size payload = max 1 (div_ceil (length payload) size)

-- the bytes of the part with this number
abbrev pub part_bytes : ℕ → ℕ → List ℕ → List ℕ
part_bytes size part payload = take size (drop ((part - 1) * size) payload)

-- the part of a message with this number
abbrev pub part_of : ℕ → Message → ℕ → Part
part_of size m part = record {
  file = m.file;
  line = m.line;
  topic = m.topic;
  part = part;
  parts = parts_of size m.payload;
  payload = part_bytes size part m.payload;
}

-- all parts of a message, in order
abbrev pub all_parts : ℕ → Message → List Part
all_parts size m = map (part_of size m) (range_with_len 1 (parts_of size m.payload))
