-- A worker's list of answers, against what its pass did. `topics` has the names and kinds of the
-- declared topics.
use Rattle.std.specs.Prelude.{◌≡◌, ◌⊎◌, ℕ, ◌+◌, ◌<◌, ◌≤◌, nat_le, if◌then◌else◌}
use Rattle.std.specs.Prelude.{List, [], ◌∷◌, ◌++◌, length, filter, flat_map}
use Rattle.std.specs.List.{All, AllZip}
use Rattle.scq_topics.specs.declared.kind.Kind.{Kind}
use Rattle.scq_frames.specs.Exports.{Part, IsEncodable, batch_bytes, parts_at}
use Rattle.scq_collect.specs.Exports.{text_of_part}
pub use Rattle.scq_collect.specs.Ways.{is_taken, is_direct}
use Rattle.scq_collect.specs.declared.answered.Answered.{Answered}
use Rattle.scq_collect.specs.declared.answered.Way.{Way}
use Rattle.scq_collect.specs.declared.answered.Way.TheVariants.{Taken, Direct}
use Rattle.scq_queue.specs.Exports.{Placed}

-- the answer to this part, come by in this way
abbrev pub answered : List (List ℕ × Kind) → Way → Part → Answered
answered topics way p = record {
  file = p.file;
  line = p.line;
  topic = p.topic;
  part = p.part;
  parts = p.parts;
  bytes = length p.payload;
  text = text_of_part topics p;
  way = way;
}

-- the bytes of a value are those of these parts, and no part begins behind them
pub record CarriesParts (bytes : List ℕ) (parts : List Part) : Type 0 where
  pub encodable : All IsEncodable parts
  pub begins : (rest : List ℕ) × (bytes ≡ batch_bytes parts ++ rest)
  pub all : parts_at bytes ≡ parts

-- the way of the part with this number in its value
abbrev pub numbered_way : Way → ℕ → Way
numbered_way (Taken place first) number = Taken place number
numbered_way (Direct head) number = Direct head

-- the answers to parts of which the first has this number in its value: to those on a declared
-- topic or the one of all others, which are the known ones
abbrev pub answers_from : List (List ℕ × Kind) → Way → ℕ → List Part → List Answered
answers_from topics way number [] = []
answers_from topics way number (p ∷ parts) =
    if nat_le p.topic (length topics) then
    answered topics (numbered_way way number) p ∷ answers_from topics way (number + 1) parts
    else answers_from topics way (number + 1) parts

-- the answers to all parts of a value
abbrev pub answers_by : List (List ℕ × Kind) → Way → List Part → List Answered
answers_by topics way parts = answers_from topics way 0 parts

-- the answers to what a take got: to the parts in its value, each with the take's place and its
-- number there
abbrev pub answers_to_take : List (List ℕ × Kind) → Placed → List Answered
answers_to_take topics take = answers_by topics (Taken take.place 0) (parts_at take.bytes)

abbrev pub answers_to_takes : List (List ℕ × Kind) → List Placed → List Answered
answers_to_takes topics takes = flat_map (answers_to_take topics) takes

-- what was taken so far is answered, in order: each part in a value has its member where it is on a
-- known topic, and there are no others
abbrev pub AnswersSoFar : List (List ℕ × Kind) → List Placed → List Answered → Type 0
AnswersSoFar topics takes members = members ≡ answers_to_takes topics takes

-- these parts may go in one value: they are of one file and topic, and where they are several they
-- have together at most `most` bytes
pub record IsBatch (most : ℕ) (batch : List Part) : Type 0 where
  pub some : 0 < length batch
  pub file : ℕ
  pub of_file : All (λ p. p.file ≡ file) batch
  pub topic : ℕ
  pub on_topic : All (λ p. p.topic ≡ topic) batch
  pub fits : (length batch ≡ 1) ⊎ (length (batch_bytes batch) ≤ most)

-- a take got parts that may go in one value, on its topic, which is a known one
pub record GotParts (topics : List (List ℕ × Kind)) (most : ℕ) (take : Placed) : Type 0 where
  pub parts : List Part
  pub carries : CarriesParts take.bytes parts
  pub batch : IsBatch most parts
  pub on_topic : All (λ p. p.topic ≡ take.topic) parts
  pub known : take.topic ≤ length topics

-- in order, the Taken members of a list are the answers to the parts that the takes of a pass got,
-- and none of these is passed over
pub record AnswersItsTakes (topics : List (List ℕ × Kind)) (most : ℕ) (takes : List Placed)
    (members : List Answered) : Type 0 where
  pub got : All (GotParts topics most) takes
  pub answers : AnswersSoFar topics takes (filter is_taken members)

-- members answer parts directly, where no buffer was free: one or more, with this head of the ring
-- of free buffers
pub record AnswersFull (head : ℕ) (group : List Answered) : Type 0 where
  pub some : group ≡ [] → ⊥
  pub each : All (λ a. a.way ≡ Direct head) group

-- one by one and in order, groups of answers are those to the Full replies of a pass
abbrev pub AnswersItsFulls : List ℕ → List (List Answered) → Type 0
AnswersItsFulls fulls groups = AllZip AnswersFull fulls groups
