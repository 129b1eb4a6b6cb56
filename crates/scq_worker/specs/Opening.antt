-- The batches that a worker has open, at most one for each topic: it gathers parts in them. They
-- lie in its own memory, so that it holds no buffer meanwhile.
use Rattle.std.specs.Prelude.{◌≡◌, ◌+◌, ◌≤◌, ℕ, Bool, List, [], ◌∷◌, ◌++◌, length, map, min}
use Rattle.std.specs.Prelude.{if◌then◌else◌, slice_index_or, All}
use Rattle.scq_frames.specs.Exports.{Part, IsEncodable, batch_bytes}
use Rattle.scq_worker.specs.Members.{IsBatch}
use Rattle.scq_worker.specs.Passing.{parts_among, parts_on}

-- how many bytes the parts of a value may have together where they are several: none go together
-- unless there are batches
abbrev pub most_together : ℕ → Bool → ℕ
most_together size batch = if batch then min (size + 24) 4120 else 0

-- how often a worker takes from a topic behind each value that it sent on it: where values may have
-- several parts, once
abbrev pub takes_behind : ℕ → ℕ
takes_behind most = min most 1

-- the parts that are open on a topic
abbrev pub open_on : ℕ → List (List Part) → List Part
open_on topic opens = slice_index_or opens topic []

-- what is open on a topic may go in one value
pub record IsOpen (most topic : ℕ) (parts : List Part) : Type 0 where
  pub encodable : All IsEncodable parts
  pub file : ℕ
  pub of_file : All (λ p. p.file ≡ file) parts
  pub on_topic : All (λ p. p.topic ≡ topic) parts
  pub fits : length (batch_bytes parts) ≤ most

-- a part fits behind those that are open on its topic: it is of their file, and they have together
-- at most `most` bytes
abbrev pub FitsBehind : ℕ → List Part → Part → Type 0
FitsBehind most parts p =
    All (λ q. q.file ≡ p.file) parts × (length (batch_bytes parts) + 24 + length p.payload ≤ most)

-- what is open once this part was passed on: it stays open behind what was, if it fits there, else
-- alone, if it fits so
pub record IsOpenBehind (most : ℕ) (old : List Part) (p : Part) (new : List Part) : Type 0 where
  pub behind : FitsBehind most old p → new ≡ old ++ p ∷ []
  pub first : (FitsBehind most old p → ⊥) → FitsBehind most [] p → new ≡ p ∷ []
  pub alone : (FitsBehind most [] p → ⊥) → new ≡ []

-- the same of parts, one after the other
abbrev pub AreOpenBehind : ℕ → List Part → List Part → List Part → Type 0
AreOpenBehind most old [] new = new ≡ old
AreOpenBehind most old (p ∷ ps) new =
    (mid : List Part) × IsOpenBehind most old p mid × AreOpenBehind most mid ps new

-- on each of so many topics and on no other
pub record AreOpen (most topics : ℕ) (opens : List (List Part)) : Type 0 where
  pub few : length opens ≤ topics
  pub each : (topic : ℕ) → IsOpen most topic (open_on topic opens)

-- on no topic
abbrev pub NoneIsOpen : List (List Part) → Type 0
NoneIsOpen opens = (topic : ℕ) → open_on topic opens ≡ []

-- parts went on in these batches, but for those that are open: on each topic those of the batches
-- and then those that are open are these, in order; and where none goes with another, each is a
-- batch, in order
pub record PartsAreGathered (most : ℕ) (parts : List Part) (batches opens : List (List Part))
    : Type 0 where
  pub each : All (IsBatch most) batches
  pub same : (topic : ℕ)
      → parts_on topic parts ≡ parts_on topic (parts_among batches) ++ open_on topic opens
  pub alone : most ≡ 0 → batches ≡ map (λ p. p ∷ []) parts
