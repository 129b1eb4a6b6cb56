-- The code's messages, which have numbers in place of a topic's bytes, as those of a text.
use Rattle.std.specs.Prelude.{ℕ, List}
use Rattle.scq_frames.specs.Text.{Framed}
use Rattle.scq_frames.specs.declared.message.Message.{Message}

-- the message of a file, with the topic's number in place of its bytes
abbrev pub numbered : ℕ → (List ℕ → ℕ) → Framed → Message
numbered file number m = record {
  file = file;
  line = m.line;
  topic = number m.topic;
  payload = m.payload;
}
