-- How an answer stands among bytes: its file and line as steps from those of the answer before it.
use Rattle.std.specs.Prelude.{ℕ, ◌+◌, ◌-◌, ◌*◌, ◌/◌, ◌%◌, ◌^◌, ◌<◌, ◌==◌, ◌&&◌, Bool, nat_lt, List}
use Rattle.std.specs.Prelude.{[], ◌∷◌, ◌++◌, length, take, drop, Option, Some, None}
use Rattle.std.specs.Prelude.{option_and_then, if◌then◌else◌}
use Rattle.byteorder.specs.Endian.{big_bytes, big_number}
use Rattle.scq_collect.specs.Joined.{PartAnswer}

-- the first byte of a number of 253 or more: it tells how many bytes follow
abbrev pub mark : ℕ → ℕ
mark n = if nat_lt n (2 ^ 16) then 253 else if nat_lt n (2 ^ 32) then 254 else 255

abbrev pub width : ℕ → ℕ
width mark = if mark == 253 then 2 else if mark == 254 then 4 else 8

-- a number in 1, 3, 5 or 9 bytes: itself where it is below 253, else its mark and then it, the
-- highest byte first
unfoldable pub number_bytes : ℕ → List ℕ
number_bytes n = if nat_lt n 253 then n ∷ [] else mark n ∷ big_bytes (width (mark n)) n

-- how far a number lies behind another, and the number that lies so far behind one; both modulo 2 ^
-- 32
abbrev pub step : ℕ → ℕ → ℕ
step from to = (to + (2 ^ 32 - from)) % 2 ^ 32

abbrev pub stepped : ℕ → ℕ → ℕ
stepped from step = (from + step) % 2 ^ 32

-- a message's one part
abbrev pub is_alone : PartAnswer → Bool
is_alone a = (a.part == 1) && (a.parts == 1)

-- twice the topic, and 1 more where the part isn't alone: then its number and the number of parts
-- follow
abbrev pub topic_code : PartAnswer → ℕ
topic_code a = 2 * a.topic + (if is_alone a then 0 else 1)

abbrev pub part_numbers : PartAnswer → List ℕ
part_numbers a = if is_alone a then [] else number_bytes a.part ++ number_bytes a.parts

-- an answer's topic, its part, how many bytes the part has, and the text with its length in front
unfoldable pub body_bytes : PartAnswer → List ℕ
body_bytes a =
    number_bytes (topic_code a) ++ part_numbers a
    ++ number_bytes a.bytes ++ number_bytes (length a.text) ++ a.text

-- an answer behind one to this file and line: how far its own lie behind them, and the rest
unfoldable pub answer_bytes : ℕ × ℕ → PartAnswer → List ℕ
answer_bytes before a =
    number_bytes (step before.0 a.file) ++ number_bytes (step before.1 a.line) ++ body_bytes a

-- answers one behind the other, of which the first comes behind one to this file and line
abbrev pub answers_bytes : ℕ × ℕ → List PartAnswer → List ℕ
answers_bytes before [] = []
answers_bytes before (a ∷ more) = answer_bytes before a ++ answers_bytes (a.file, a.line) more

-- its numbers fit 32 bits, its lengths 64
pub record IsCodable (a : PartAnswer) : Type 0 where
  pub file : a.file < 2 ^ 32
  pub line : a.line < 2 ^ 32
  pub topic : a.topic < 2 ^ 32
  pub part : a.part < 2 ^ 32
  pub parts : a.parts < 2 ^ 32
  pub bytes : a.bytes < 2 ^ 64
  pub text : length a.text < 2 ^ 64

-- the number whose bytes come first, and the bytes behind it
unfoldable pub number_from : List ℕ → Option (ℕ × List ℕ)
number_from [] = None
number_from (first ∷ rest) =
    if nat_lt first 253 then Some (first, rest)
    else if nat_lt (length rest) (width first) then None
    else Some (big_number (width first) rest, drop (width first) rest)

-- the same of a number of 32 bits
unfoldable pub short_from : List ℕ → Option (ℕ × List ℕ)
short_from bytes = option_and_then (λ found. if nat_lt found.0 (2 ^ 32) then Some found
    else None) (number_from bytes)

-- part and parts, whose bytes come first where the topic's code is odd
unfoldable pub parts_from : ℕ → List ℕ → Option ((ℕ × ℕ) × List ℕ)
parts_from code bytes =
    if code % 2 == 0 then Some ((1, 1), bytes)
    else option_and_then (λ part.
    option_and_then (λ parts. Some ((part.0, parts.0), parts.1)) (short_from part.1))
    (short_from bytes)

-- the file and line whose steps from these come first, and the bytes behind them
unfoldable pub place_from : ℕ × ℕ → List ℕ → Option ((ℕ × ℕ) × List ℕ)
place_from before bytes =
    option_and_then (λ file.
    option_and_then (λ line.
    Some ((stepped before.0 file.0, stepped before.1 line.0), line.1)) (short_from file.1))
    (short_from bytes)

-- the answer at this file and line whose other bytes come first, and the bytes behind it
unfoldable pub body_from : ℕ × ℕ → List ℕ → Option (PartAnswer × List ℕ)
body_from place bytes =
    option_and_then (λ code.
    option_and_then (λ parts.
    option_and_then (λ count.
    option_and_then (λ len.
    if nat_lt (code.0 / 2) (2 ^ 32) then
    if nat_lt (length len.1) len.0 then None
    else Some (
      record {
        file = place.0;
        line = place.1;
        topic = code.0 / 2;
        part = parts.0.0;
        parts = parts.0.1;
        bytes = count.0;
        text = take len.0 len.1;
      },
      drop len.0 len.1,
    )
    else None)
    (number_from count.1)) (number_from parts.1)) (parts_from code.0 code.1)) (number_from bytes)
