-- A state of the machine: the words of all rings with the contents that stand beside their entries,
-- the part of each seat, and the opening contents.
use Rattle.std.specs.Prelude.{ℕ, List, [], Option}
use Rattle.scq_core.specs.declared.ended.Ended.{Ended}
use Rattle.scq_core.specs.declared.phase.Phase.{Phase}
use Rattle.scq_core.specs.declared.slot.Cell.{Cell}
use Rattle.scq_core.specs.declared.slot.Cell.TheVariants.{Tail, Head, Threshold, Entry}
use Rattle.scq_core.specs.Updated.{updated}

-- the entries by ring and slot: the word, and the content that its put placed with it. A put's
-- exchange writes both; a dequeue changes the word alone, and the content that stays means nothing
-- until the next put
pub record Entries : Type 0 where
  pub word : ℕ → ℕ → ℕ
  pub content : ℕ → ℕ → List ℕ

-- the words by ring. Threshold is kept as 2^32 more than its value
pub record Cells : Type 0 where
  pub tail : ℕ → ℕ
  pub head : ℕ → ℕ
  pub threshold : ℕ → ℕ
  pub entries : Entries

-- a seat's part: what it is in the middle of, the indices in its hand, the spent ticket that it
-- keeps, and its record
pub record SeatPart : Type 0 where
  pub phase : Phase
  pub hand : List ℕ
  pub spent : Option ℕ
  pub calls : List Ended

pub record Machine : Type 0 where
  pub cells : Cells
  pub part : ℕ → SeatPart
  pub opening : List (List ℕ)

-- where a word of a ring stands: at Tail, Head or Threshold, or in a slot
pub data Location : Type 0 where
  tail_of : (ring : ℕ) → Location
  head_of : (ring : ℕ) → Location
  threshold_of : (ring : ℕ) → Location
  entry_of : (ring slot : ℕ) → Location

-- the location that a cell of a ring is
abbrev pub location_at : ℕ → Cell → Location
location_at r Tail = tail_of r
location_at r Head = head_of r
location_at r Threshold = threshold_of r
location_at r (Entry slot) = entry_of r slot

-- what stands at a location
abbrev pub read : Cells → Location → ℕ
read m (tail_of r) = m.tail r
read m (head_of r) = m.head r
read m (threshold_of r) = m.threshold r
read m (entry_of r s) = m.entries.word r s

-- what stands beside it: the content of an entry
abbrev pub beside : Cells → Location → List ℕ
beside m (tail_of r) = []
beside m (head_of r) = []
beside m (threshold_of r) = []
beside m (entry_of r s) = m.entries.content r s

abbrev pub updated_entry : {A : Type 0} → (ℕ → ℕ → A) → ℕ → ℕ → A → ℕ → ℕ → A
updated_entry f r s x = updated f r (updated (f r) s x)

-- the cells with one word changed, and beside an entry its content
abbrev pub written : Cells → Location → ℕ → List ℕ → Cells
written m (tail_of r) x y = record m { tail = updated m.tail r x }
written m (head_of r) x y = record m { head = updated m.head r x }
written m (threshold_of r) x y = record m { threshold = updated m.threshold r x }
written m (entry_of r s) x y =
    record m {
      entries = record {
        word = updated_entry m.entries.word r s x;
        content =
            updated_entry m.entries.content r s y;
      };
    }
