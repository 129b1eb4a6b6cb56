-- What the answers to the parts of messages say of the messages: the parts of one are joined in
-- order of their numbers, whoever answered them.
use Rattle.std.specs.Prelude.{◌≡◌, ℕ, ◌==◌, List, [], ◌∷◌, length, map, flat_map, if◌then◌else◌}
use Rattle.std.specs.List.{All, Contains}
use Rattle.scq_topics.specs.declared.kind.Kind.{Kind}
use Rattle.scq_topics.specs.Exports.{reply_of, kind_of}
use Rattle.scq_frames.specs.declared.message.Message.{Message}
use Rattle.scq_frames.specs.Exports.{IsNumbered, Part, all_parts}
use Rattle.scq_collect.specs.Merging.{AreApart, IsMerged, position_of_part}
use Rattle.scq_collect.specs.Output.{Answer}
use Rattle.scq_collect.specs.declared.answered.Answered.{Answered}

-- the answer to a part: its message's file, line and topic, its number, how many parts the message
-- has, how many bytes this one has, and its text
pub record PartAnswer : Type 0 where
  pub file : ℕ
  pub line : ℕ
  pub topic : ℕ
  pub part : ℕ
  pub parts : ℕ
  pub bytes : ℕ
  pub text : List ℕ

-- the answer alone, without the way in which a worker came to it
abbrev pub without_way : Answered → PartAnswer
without_way a = record {
  file = a.file;
  line = a.line;
  topic = a.topic;
  part = a.part;
  parts =
      a.parts;
  bytes = a.bytes;
  text = a.text;
}

-- the text of a part: the reply where it is the whole message, else its bytes
abbrev pub text_of_part : List (List ℕ × Kind) → Part → List ℕ
text_of_part topics p =
    if p.parts == 1 then reply_of (kind_of topics p.topic) p.payload else p.payload

abbrev pub part_answer : List (List ℕ × Kind) → Part → PartAnswer
part_answer topics p = record {
  file = p.file;
  line = p.line;
  topic = p.topic;
  part = p.part;
  parts = p.parts;
  bytes = length p.payload;
  text = text_of_part topics p;
}

-- the answers to all parts of messages, where a part has at most so many bytes
abbrev pub part_answers : List (List ℕ × Kind) → ℕ → List Message → List PartAnswer
part_answers topics size messages = map (part_answer topics) (flat_map (all_parts size) messages)

-- the members are parts of messages, and all of each message that has one: for each file and line
-- that stands among them they are its parts 1 to `parts`, each once, with one topic
pub record AreWhole (members : List Answered) : Type 0 where
  pub apart : AreApart position_of_part members
  pub numbered : All (λ a. IsNumbered a.part a.parts) members
  pub alike : (a b : Answered) → Contains members a → Contains members b → a.file ≡ b.file
      → a.line ≡ b.line → (a.topic ≡ b.topic) × (a.parts ≡ b.parts)
  pub each : (a : Answered) (part : ℕ) → Contains members a → IsNumbered part a.parts
      → (b : Answered) × Contains members b × (position_of_part b ≡ (a.file, a.line, part))

-- a message begins here, or nothing is left
abbrev pub BeginsMessage : List PartAnswer → Type 0
BeginsMessage [] = Unit {0}
BeginsMessage (a ∷ more) = a.part ≡ 1

-- one answer in front of the first group
abbrev pub in_front : PartAnswer → List (List PartAnswer) → List (List PartAnswer)
in_front a [] = (a ∷ []) ∷ []
in_front a (group ∷ more) = (a ∷ group) ∷ more

-- answers in order, cut in front of each part 1: the parts of one message stand together
abbrev pub messages_in_order : List PartAnswer → List (List PartAnswer)
messages_in_order [] = []
messages_in_order (a ∷ []) = (a ∷ []) ∷ []
messages_in_order (a ∷ b ∷ more) =
    if b.part == 1 then (a ∷ []) ∷ messages_in_order (b ∷ more)
    else in_front a (messages_in_order (b ∷ more))

-- the texts of parts, in their order
abbrev pub text_of_parts : List PartAnswer → List ℕ
text_of_parts parts = flat_map (λ a. a.text) parts

-- the answer to a message of one part
abbrev pub answer_of_one : PartAnswer → Answer
answer_of_one a =
    record { file = a.file; line = a.line; topic = a.topic; bytes = a.bytes; reply = a.text }

-- the answer to the message of these parts: that of its one part, or the reply to the texts of
-- several, joined in their order
abbrev pub joined : List (List ℕ × Kind) → List PartAnswer → Answer
joined topics [] = record { file = 0; line = 0; topic = 0; bytes = 0; reply = [] }
joined topics (a ∷ []) = answer_of_one a
joined topics (a ∷ b ∷ more) = record {
  file = a.file;
  line = a.line;
  topic = a.topic;
  bytes = length (text_of_parts (a ∷ b ∷ more));
  reply = reply_of (kind_of topics a.topic) (text_of_parts (a ∷ b ∷ more));
}

-- the answers to the messages of parts that stand in order
abbrev pub answers_of : List (List ℕ × Kind) → List PartAnswer → List Answer
answers_of topics parts = map (joined topics) (messages_in_order parts)

-- the answers to the messages of the members, in order of file and line
pub record IsJoined (topics : List (List ℕ × Kind)) (members : List Answered)
    (wholes : List Answer) : Type 0 where
  pub all : List Answered
  pub merged : IsMerged position_of_part members all
  pub wholes_are : wholes ≡ answers_of topics (map without_way all)
