-- Where answers lie.
use Rattle.std.specs.Prelude.{◌≡◌, ℕ, Option, Some, None, List, [], map}
use Rattle.scq_collect.specs.declared.answered.Answered.{Answered}
use Rattle.scq_collect.specs.declared.spots.Spot.{Spot}
use Rattle.scq_collect.specs.Coding.{body_from}
use Rattle.scq_collect.specs.Joined.{PartAnswer, without_way}
use Rattle.scq_collect.specs.Merging.{IsMerged, position_of_part}

-- what was read, or an answer with nothing
abbrev pub body_or_nothing : Option (PartAnswer × List ℕ) → PartAnswer
body_or_nothing None = record {
  file = 0;
  line = 0;
  topic = 0;
  part = 0;
  parts = 0;
  bytes = 0;
  text = [];
}
body_or_nothing (Some found) = found.0

-- the answer to the part of this number, at this file and line, whose other bytes come first
abbrev pub answer_in : ℕ → ℕ → ℕ → List ℕ → PartAnswer
answer_in file line part bytes =
    let body = body_or_nothing (body_from (file, line) bytes) in
    record {
      file = file;
      line = line;
      topic = body.topic;
      part = part;
      parts = body.parts;
      bytes = body.bytes;
      text = body.text;
    }

-- the answer that lies there
abbrev pub spot_answer : Spot → PartAnswer
spot_answer s = answer_in s.file s.line s.part s.bytes.now

-- the answers of spots, without the ways
abbrev pub plain : List Spot → List PartAnswer
plain spots = map spot_answer spots

-- where a spot's part stands
abbrev pub position_of_spot : Spot → ℕ × ℕ × ℕ
position_of_spot s = (s.file, s.line, s.part)

-- the answers of the spots are the members, in order of their positions
pub record AreMerged (members : List Answered) (spots : List Spot) : Type 0 where
  pub all : List Answered
  pub merged : IsMerged position_of_part members all
  pub are : plain spots ≡ map without_way all
