-- A worker's list of finished messages, against what its pass took. What was taken is read as a
-- part.
use Rattle.std.specs.Prelude.{◌≡◌, ℕ, zero, suc, Bool, true, false, List, filter, Some, None}
use Rattle.std.specs.List.{AllZip}
use Rattle.scq_frames.specs.Exports.{Part, BeginsWith, part_at}
use Rattle.scq_queue.specs.Exports.{Placed}
use Rattle.scq_stages.specs.Handling.{after_stage}
use Rattle.scq_stages.specs.Stages.{both, redacted, squeezed}
use Rattle.scq_stages.specs.declared.finished.Finished.{Finished}
use Rattle.scq_stages.specs.declared.finished.StageWay.{StageWay}
use Rattle.scq_stages.specs.declared.finished.StageWay.TheVariants.{Second, First, Direct}

-- whether a member was taken from second, taken from first, or made by its own worker
abbrev pub is_way_second : StageWay → Bool
is_way_second (Second place) = true
is_way_second (First place) = false
is_way_second (Direct head) = false

abbrev pub is_way_first : StageWay → Bool
is_way_first (Second place) = false
is_way_first (First place) = true
is_way_first (Direct head) = false

abbrev pub is_way_direct : StageWay → Bool
is_way_direct (Second place) = false
is_way_direct (First place) = false
is_way_direct (Direct head) = true

abbrev pub is_second : Finished → Bool
is_second f = is_way_second f.way

abbrev pub is_first : Finished → Bool
is_first f = is_way_first f.way

abbrev pub is_direct : Finished → Bool
is_direct f = is_way_direct f.way

-- the way of what was taken from this topic at this place
abbrev pub way_from : ℕ → ℕ → StageWay
way_from zero place = First place
way_from (suc topic) place = Second place

-- a part that went through this stage, and came to a list in this way
abbrev pub finished : StageWay → (List ℕ → List ℕ) → Part → Finished
finished way stage p = record { file = p.file; line = p.line; payload = stage p.payload; way = way }

-- a member is what became of the part that the bytes of a take are read as, at the take's place
pub record FinishesTake (way : ℕ → StageWay) (stage : List ℕ
    → List ℕ) (take : Placed) (f : Finished) : Type 0 where
  pub part : Part
  pub decodes : part_at take.bytes ≡ Some part
  pub is : f ≡ finished (way take.place) stage part

-- one by one and in order, the Second members of a list are these takes, the First members are
-- these, and the Direct ones are Full replies
abbrev pub SecondsAre : List Placed → List Finished → Type 0
SecondsAre takes members = AllZip (FinishesTake Second squeezed) takes (filter is_second members)

abbrev pub FirstsAre : List Placed → List Finished → Type 0
FirstsAre takes members = AllZip (FinishesTake First both) takes (filter is_first members)

abbrev pub DirectsAre : List ℕ → List Finished → Type 0
DirectsAre fulls members = AllZip (λ head f. f.way ≡ Direct head) fulls (filter is_direct members)

-- what was sent has the bytes of the part that the bytes of a take are read as, redacted
pub record IsMove (take send : Placed) : Type 0 where
  pub part : Part
  pub decodes : part_at take.bytes ≡ Some part
  pub moved : BeginsWith send.bytes (after_stage redacted part)

-- one by one and in order, these takes are these sends, redacted
abbrev pub AreMoves : List Placed → List Placed → Type 0
AreMoves takes sends = AllZip IsMove takes sends

-- the bytes of a take are no part's
abbrev pub IsNoPart : Placed → Type 0
IsNoPart take = part_at take.bytes ≡ None
