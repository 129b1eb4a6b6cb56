-- Members of lists, merged in order of file, line and part.
use Rattle.std.specs.Prelude.{◌≡◌, ◌≢◌, ◌⊎◌, ℕ, ◌<◌, List, length, flat_map}
use Rattle.std.specs.List.{AllAdjacentBelow, AllPairs}
use Rattle.std.specs.List.Sorted.{IsPermutation}
use Rattle.scq_frames.specs.declared.message.Message.{Message}
use Rattle.scq_collect.specs.Output.{Answer}
use Rattle.scq_collect.specs.declared.answered.Answered.{Answered}

-- one position stands before another: by file, in one file by line, and in one line by part
abbrev pub IsBefore : ℕ × ℕ × ℕ → ℕ × ℕ × ℕ → Type 0
IsBefore p q = (p.0 < q.0) ⊎ ((p.0 ≡ q.0) × ((p.1 < q.1) ⊎ ((p.1 ≡ q.1) × (p.2 < q.2))))

-- each member stands before the next: so no two have one position
abbrev pub StandInOrder : {A : Type 0} → (A → ℕ × ℕ × ℕ) → List A → Type 0
StandInOrder position members =
    AllAdjacentBelow (λ x y. IsBefore (position x) (position y)) members (length members)

-- no member stands before the one in front of it
abbrev pub IsSorted : {A : Type 0} → (A → ℕ × ℕ × ℕ) → List A → Type 0
IsSorted position members =
    AllAdjacentBelow (λ x y. ¬ IsBefore (position y) (position x)) members (length members)

-- no two members have one position
abbrev pub AreApart : {A : Type 0} → (A → ℕ × ℕ × ℕ) → List A → Type 0
AreApart position members = AllPairs (λ x y. position x ≢ position y) members

-- the members of all lists, one list behind the other
abbrev pub members_of : List (List Answered) → List Answered
members_of lists = flat_map (λ list. list) lists

-- the members of a list, in order of their positions
pub record IsMerged {A : Type 0} (position : A → ℕ × ℕ × ℕ) (members merged : List A) : Type 0 where
  pub same : IsPermutation members merged
  pub sorted : IsSorted position merged

-- where a message stands: where its first part does
abbrev pub position_of : Message → ℕ × ℕ × ℕ
position_of m = (m.file, m.line, 1)

-- where the message of an answer stands
abbrev pub position_of_answer : Answer → ℕ × ℕ × ℕ
position_of_answer a = (a.file, a.line, 1)

-- where the part of a worker's answer stands: its file, its line and its number
abbrev pub position_of_part : Answered → ℕ × ℕ × ℕ
position_of_part a = (a.file, a.line, a.part)
