-- What the lines of a text and the fields of a line say. A byte is a number below 256
use Rattle.std.specs.Prelude.{ℕ, ◌*◌, Bool, ◌==◌, ◌&&◌, ◌||◌, nat_lt, nat_le, List, [], ◌∷◌, Option}
use Rattle.std.specs.Prelude.{Some, None, length, drop, codes, if◌then◌else◌}
use Rattle.std.specs.Char.{is_ascii_digit}
use Rattle.std.specs.List.{list_all, onto_first, slice_split}
use Rattle.std.specs.Option.{option_and_then}
use Rattle.std.specs.Result.{result_ok}
use Rattle.std.specs.Str.{all_ascii_digits, bytes_eq}
use Rattle.std.specs.Str.Parse.{digits_value}
use Rattle.hex.specs.Hex.{decode_of, encode_lower}

-- the lines of a text: each ends at LF, and bytes after the last LF are a line
abbrev pub lines_of : List ℕ → List (List ℕ)
lines_of [] = []
lines_of (byte ∷ bytes) =
    if byte == 10 then [] ∷ lines_of bytes else onto_first byte (lines_of bytes)

-- a byte ends a field where it is a space
abbrev pub ends_field : ℕ → Bool
ends_field byte = byte == 32

-- the fields of a line stand one space apart
abbrev pub fields_of : List ℕ → List (List ℕ)
fields_of line = slice_split ends_field line

-- the fields of a line but the first
abbrev pub fields_after : List ℕ → List (List ℕ)
fields_after line = drop 1 (fields_of line)

-- the number that a field says: 1 to 19 ASCII digits in decimal, and nothing else
abbrev pub number_of : List ℕ → Option ℕ
number_of field =
    if nat_lt 0 (length field) && nat_le (length field) 19 && all_ascii_digits field
    then Some (digits_value 10 field) else None

-- a number below a bound, if this is one
abbrev pub below : ℕ → ℕ → Option ℕ
below bound number = if nat_lt number bound then Some number else None

-- the number that a field says, where it is below a bound
abbrev pub number_below : ℕ → List ℕ → Option ℕ
number_below bound field = option_and_then (below bound) (number_of field)

-- a hexadecimal digit, with lower-case letters
abbrev pub is_lower_digit : ℕ → Bool
is_lower_digit byte = is_ascii_digit byte || (nat_le 97 byte && nat_le byte 102)

-- one such digit or more, and at most two for each of so many bytes
abbrev pub is_hex : ℕ → List ℕ → Bool
is_hex most field =
    nat_lt 0 (length field) && nat_le (length field) (2 * most) && list_all is_lower_digit field

-- the content that a field says, of at most so many bytes: `-` for none, or two lower-case
-- hexadecimal digits for each byte
abbrev pub field_content : ℕ → List ℕ → Option (List ℕ)
field_content most field =
    if bytes_eq field (codes "-") then Some []
    else if is_hex most field then result_ok (decode_of field)
    else None

-- how a content is written: `-` for none
abbrev pub content_text : List ℕ → List ℕ
content_text [] = codes "-"
content_text (byte ∷ bytes) = encode_lower (byte ∷ bytes)
