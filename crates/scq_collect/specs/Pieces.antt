-- A text in pieces.
use Rattle.std.specs.Prelude.{◌≡◌, ℕ, ◌<◌, ◌≤◌, List, length, flat_map, IfOk, IsTrue, Result, Vec}
use Rattle.std.specs.Prelude.{is_ok, slice_index_or}
use Rattle.std.specs.Global.{Global}
use Rattle.std.specs.List.{All}
use Rattle.scq_topics.specs.declared.kind.Kind.{Kind}
use Rattle.scq_word.specs.declared.NoMemory.{NoMemory}
use Rattle.scq_collect.specs.declared.answered.Answered.{Answered}
use Rattle.scq_collect.specs.declared.pieces.Piece.{Piece}
use Rattle.scq_collect.specs.declared.stretches.Stretch.{Stretch}
use Rattle.scq_collect.specs.declared.spans.Span.{Span}
use Rattle.scq_collect.specs.Joined.{BeginsMessage, IsJoined, PartAnswer, answers_of}
use Rattle.scq_collect.specs.Output.{Answer, reply_line}
use Rattle.scq_collect.specs.Sums.{AreTotals}
use Rattle.scq_collect.specs.Taken.{AreTaken}

-- the bytes of the pieces, one behind the other
abbrev pub pieces_bytes : List (Vec ℕ Global) → List ℕ
pieces_bytes pieces = flat_map (λ p. p.items) pieces

-- the lines for these answers, and their totals
pub record IsPieceOf (topics : List (List ℕ × Kind)) (answers : List Answer)
    (piece : Piece) : Type 0 where
  pub text : piece.text.items ≡ flat_map (reply_line topics) answers
  pub totals : AreTotals piece.totals answers

-- the answers of several lists, one list behind the other
abbrev pub all_answers : List (List Answer) → List Answer
all_answers lists = flat_map (λ answers. answers) lists

-- the same of a stretch, which has no more answers than parts
pub record IsStretchOf (topics : List (List ℕ × Kind)) (answers : List Answer)
    (stretch : Stretch) : Type 0 where
  pub piece : IsPieceOf topics answers stretch.piece
  pub few : length answers ≤ stretch.parts

-- each stretch that was made is that of the list at its place
pub record AreStretchesOf (topics : List (List ℕ × Kind)) (lists : List (List Answer))
    (made : List (Result Stretch NoMemory)) : Type 0 where
  pub count : length made ≡ length lists
  pub each : (n : ℕ) (d : Result Stretch NoMemory) (e : List Answer) → n < length made
      → IfOk (slice_index_or made n d) (IsStretchOf topics (slice_index_or lists n e))

-- the stretch of these spans: where it says so, a message begins with the first part of each
pub record IsMadeOf (topics : List (List ℕ × Kind)) (answers : List PartAnswer) (spans : List Span)
    (stretch : Stretch) : Type 0 where
  pub parts : List (List PartAnswer)
  pub taken : AreTaken answers spans parts
  pub made : IsStretchOf topics (flat_map (answers_of topics) parts) stretch
  pub whole : IsTrue stretch.whole → All BeginsMessage parts

-- each stretch that was made is that of the spans at its place
pub record AreMadeOf (topics : List (List ℕ × Kind)) (answers : List PartAnswer)
    (cuts : List (List Span)) (made : List (Result Stretch NoMemory)) : Type 0 where
  pub count : length made ≡ length cuts
  pub each : (n : ℕ) (d : Result Stretch NoMemory) (e : List Span) → n < length made
      → IfOk (slice_index_or made n d) (IsMadeOf topics answers (slice_index_or cuts n e))

-- where all stretches were made, they are those of the answers to the messages of the members
pub record AreOfMembers (topics : List (List ℕ × Kind)) (members : List Answered)
    (made : List (Result Stretch NoMemory)) : Type 0 where
  pub lists : List (List Answer)
  pub stretches : AreStretchesOf topics lists made
  pub joined : All (λ s. IsTrue (is_ok s)) made → IsJoined topics members (all_answers lists)
