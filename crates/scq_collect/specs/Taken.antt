-- Answers taken span by span, in order of their positions.
use Rattle.std.specs.Prelude.{ℕ, List, [], ◌∷◌}
use Rattle.std.specs.List.{filter}
use Rattle.std.specs.List.Sorted.{IsPermutation}
use Rattle.scq_collect.specs.declared.spans.Span.{Span}
use Rattle.scq_collect.specs.Joined.{PartAnswer}
use Rattle.scq_collect.specs.Merging.{IsSorted}
use Rattle.scq_collect.specs.Spans.{is_in}

-- where the part of an answer stands
abbrev pub position_of_part_answer : PartAnswer → ℕ × ℕ × ℕ
position_of_part_answer a = (a.file, a.line, a.part)

-- the answers whose messages stand in a span, in order of their positions
pub record AreAnswersIn (answers : List PartAnswer) (span : Span) (parts : List PartAnswer)
    : Type 0 where
  pub same : IsPermutation (filter (is_in span) answers) parts
  pub sorted : IsSorted position_of_part_answer parts

-- those of each span
abbrev pub AreTaken : List PartAnswer → List Span → List (List PartAnswer) → Type 0
AreTaken answers [] [] = Unit {0}
AreTaken answers (span ∷ spans) (parts ∷ more) =
    AreAnswersIn answers span parts × AreTaken answers spans more
AreTaken answers [] (parts ∷ more) = ⊥
AreTaken answers (span ∷ spans) [] = ⊥
