-- Messages as a framer gives them, answered.
use Rattle.std.specs.Prelude.{ℕ, ◌+◌, List, [], ◌∷◌, ◌++◌, length, map}
use Rattle.scq_topics.specs.declared.kind.Kind.{Kind}
use Rattle.scq_topics.specs.Exports.{reply_of, kind_of, topic_of}
use Rattle.scq_frames.specs.declared.message.Message.{Message}
use Rattle.scq_frames.specs.Exports.{numbered, messages_of}
use Rattle.scq_collect.specs.Output.{Answer}

-- the answer to a message, whose topic has its number
abbrev pub answer_of : List (List ℕ × Kind) → Message → Answer
answer_of topics m = record {
  file = m.file;
  line = m.line;
  topic = m.topic;
  bytes = length m.payload;
  reply = reply_of (kind_of topics m.topic) m.payload;
}

-- all messages of files with these contents, of which the first has this number
abbrev pub messages_to : List (List ℕ × Kind) → ℕ → List (List ℕ) → List Message
messages_to topics file [] = []
messages_to topics file (content ∷ more) =
    map (numbered file (topic_of topics)) (messages_of content)
    ++ messages_to topics (file + 1) more
