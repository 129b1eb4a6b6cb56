-- What is wrong with the bytes that a source gave, where a payload may have so many bytes and the
-- source so many in all.
use Rattle.std.specs.Prelude.{ℕ, Bool, ◌||◌, nat_lt, List, [], ◌∷◌, length, take, Option, Some}
use Rattle.std.specs.Prelude.{None, if◌then◌else◌}
use Rattle.std.specs.List.{list_any}
use Rattle.std.specs.Option.{option_or}
use Rattle.scq_frames.specs.Text.{Framed, messages_after, is_line_feed}

-- a payload of a line is too long, or there are too many bytes
pub data Trouble : Type 0 where
  LongPayload : (line len : ℕ) → Trouble
  ManyBytes : Trouble

-- a text up to its last LF
abbrev pub whole_lines : List ℕ → List ℕ
whole_lines [] = []
whole_lines (b ∷ bs) = if list_any is_line_feed (b ∷ bs) then b ∷ whole_lines bs else []

-- the bytes whose lines count: of a text that is too large, and of one whose source failed behind
-- it, the lines that end within the limit, and of another one all
unfoldable pub counted_bytes : ℕ → Bool → List ℕ → List ℕ
counted_bytes most failed text =
    if failed || nat_lt most (length text) then whole_lines (take most text) else text

-- the first message whose payload is too long
abbrev pub first_too_long : ℕ → List Framed → Option Trouble
first_too_long size [] = None
first_too_long size (m ∷ ms) =
    if nat_lt size (length m.payload) then Some (LongPayload m.line (length m.payload))
    else first_too_long size ms

-- the trouble of a text that follows so many lines
unfoldable pub trouble_after : ℕ → ℕ → Bool → ℕ → List ℕ → Option Trouble
trouble_after size most failed passed text =
    option_or (first_too_long size (messages_after passed (counted_bytes most failed text)))
    (if nat_lt most (length text) then Some ManyBytes else None)

-- the trouble of what a source gave, to its end or before a read failed
abbrev pub trouble_of : ℕ → ℕ → Bool → List ℕ → Option Trouble
trouble_of size most failed content = trouble_after size most failed 0 content
