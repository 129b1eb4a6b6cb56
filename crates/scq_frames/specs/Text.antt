-- What a text says, byte by byte: its lines, and the messages that they are. It knows no file, no
-- declared topic and no way of reading.
use Rattle.std.specs.Prelude.{ℕ, ◌+◌, Bool, ◌==◌, List, [], ◌∷◌, ◌++◌}
use Rattle.std.specs.List.{slice_split, before_first, after_first}
use Rattle.scq_topics.specs.Exports.{is_space}

-- a byte ends a line where it is LF
abbrev pub is_line_feed : ℕ → Bool
is_line_feed b = b == 10

-- what follows the last LF is a line where it has bytes
abbrev pub last_line : List ℕ → List (List ℕ)
last_line [] = []
last_line (b ∷ bs) = (b ∷ bs) ∷ []

-- the lines in the parts between the LFs of a text
abbrev pub lines_of_parts : List (List ℕ) → List (List ℕ)
lines_of_parts [] = []
lines_of_parts (last ∷ []) = last_line last
lines_of_parts (part ∷ next ∷ more) = part ∷ lines_of_parts (next ∷ more)

-- the lines of a text: each part that an LF ends, and what follows the last LF where it has bytes
abbrev pub text_lines : List ℕ → List (List ℕ)
text_lines text = lines_of_parts (slice_split is_line_feed text)

-- a message as a text has it: its line's number, from 1, its topic's bytes and its payload
pub record Framed : Type 0 where
  pub line : ℕ
  pub topic : List ℕ
  pub payload : List ℕ

-- a line's payload is what follows its first space, which ends the topic: a line without a space is
-- all topic
abbrev pub payload_of : List ℕ → List ℕ
payload_of line = after_first is_space line

-- the message of a line
abbrev pub framed : ℕ → List ℕ → Framed
framed number line = record {
  line = number;
  topic = before_first is_space line;
  payload = payload_of line;
}

-- the message in a line, where the line has bytes
abbrev pub message_in : ℕ → List ℕ → List Framed
message_in number [] = []
message_in number (b ∷ bs) = framed number (b ∷ bs) ∷ []

-- the messages of lines of which the first has this number: an empty line has its number and no
-- message
abbrev pub messages_from : ℕ → List (List ℕ) → List Framed
messages_from number [] = []
messages_from number (line ∷ more) = message_in number line ++ messages_from (number + 1) more

-- the messages of a text that follows so many lines
unfoldable pub messages_after : ℕ → List ℕ → List Framed
messages_after passed text = messages_from (passed + 1) (text_lines text)

-- the messages of a text
abbrev pub messages_of : List ℕ → List Framed
messages_of text = messages_after 0 text
