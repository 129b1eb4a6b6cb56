-- The bytes of a part of a message.
use Rattle.std.specs.Prelude.{◌≡◌, ◌^◌, ◌<◌, ◌||◌, ℕ, nat_lt, List, ◌++◌, length, take, drop}
use Rattle.std.specs.Prelude.{Option, Some, None, option_and_then, if◌then◌else◌}
use Rattle.byteorder.specs.Endian.{big_bytes, big_number}
use Rattle.scq_frames.specs.Parts.{Part, IsNumbered}

-- its file, its line, its topic, its length, its number and the number of parts, in 32 bits each
-- with the highest byte first, and then the part's bytes
unfoldable pub message_bytes : Part → List ℕ
message_bytes p =
    big_bytes 4 p.file ++ big_bytes 4 p.line ++ big_bytes 4 p.topic
    ++ big_bytes 4 (length p.payload) ++ big_bytes 4 p.part ++ big_bytes 4 p.parts
    ++ p.payload

-- its number is at least 1 and at most the number of parts, and all its numbers fit 32 bits. So it
-- is of each part of a message whose payload has fewer than 2 ^ 32 bytes.
pub record IsEncodable (p : Part) : Type 0 where
  pub file : p.file < 2 ^ 32
  pub line : p.line < 2 ^ 32
  pub topic : p.topic < 2 ^ 32
  pub payload : length p.payload < 2 ^ 32
  pub parts : p.parts < 2 ^ 32
  pub numbered : IsNumbered p.part p.parts

-- the bytes are those of the part, and then any others
abbrev pub BeginsWith : List ℕ → Part → Type 0
BeginsWith bytes p = (rest : List ℕ) × (bytes ≡ message_bytes p ++ rest)

-- the number in the first four bytes, and the bytes after it
unfoldable pub number_at : List ℕ → Option (ℕ × List ℕ)
number_at bytes = if nat_lt (length bytes) 4 then None else Some (big_number 4 bytes, drop 4 bytes)

-- the part whose bytes come first
unfoldable pub part_at : List ℕ → Option Part
part_at bytes =
    option_and_then (λ file.
    option_and_then (λ line.
    option_and_then (λ topic.
    option_and_then (λ len.
    option_and_then (λ part.
    option_and_then (λ parts.
    if nat_lt part.0 1 || nat_lt parts.0 part.0 then None
    else if nat_lt (length parts.1) len.0 then None
    else Some (record {
      file = file.0;
      line = line.0;
      topic = topic.0;
      part = part.0;
      parts =
          parts.0;
      payload = take len.0 parts.1;
    }))
    (number_at part.1)) (number_at len.1)) (number_at topic.1)) (number_at line.1))
    (number_at file.1)) (number_at bytes)
