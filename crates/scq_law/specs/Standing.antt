-- What stands in the entries of the rings: each index that was placed and not taken, with its
-- content beside it.
use Rattle.std.specs.Prelude.{◌≡◌, ℕ, ◌<◌, ◌⊎◌, false, List}
use Rattle.scq_word.specs.declared.setup.Setup.{Setup}
use Rattle.scq_word.specs.Exports.{n_of, index_in, cycle_in, is_none_in}
use Rattle.scq_core.specs.Exports.{Cells, ring_slots, cycle, slot, word_at}
use Rattle.scq_core.specs.Machine.{Machine}
use Rattle.scq_law.specs.Places.{Maker, IsPlacedBy, IsTaken, IsUntaken}

-- the word of this place's slot has its cycle and an index below n, and this content stands beside
-- it
pub record StandsInSlot (c : Setup) (m : Cells) (r p : ℕ) (w : List ℕ) : Type 0 where
  pub cycle : cycle_in (ring_slots c) (word_at c m r p) ≡ cycle c p
  pub index : index_in (ring_slots c) (word_at c m r p) < n_of c.order
  pub content : m.entries.content r (slot c p) ≡ w

-- a place of this slot, of the cycle of its word, where the content beside it was placed and nobody
-- has taken
pub record StandsFor (c : Setup) (m : Machine) (r s : ℕ) : Type 0 where
  pub place : ℕ
  pub maker : Maker
  pub slot : slot c place ≡ s
  pub placed : IsPlacedBy c m r place (m.cells.entries.content r s) maker
  pub untaken : IsUntaken m r place
  pub cycle : cycle_in (ring_slots c) (m.cells.entries.word r s) ≡ cycle c place

-- what stands in the entries is what was placed and not taken
pub record EntriesMatchPlaces (c : Setup) (m : Machine) : Type 0 where
  -- each entry with an index is that of a place
  pub placed : (r s : ℕ) → s < ring_slots c
      → is_none_in (ring_slots c) (m.cells.entries.word r s) ≡ false → StandsFor c m r s
  -- each place has been taken, or its index and content stand in its slot
  pub stands : (r p : ℕ) (w : List ℕ) (a : Maker) → IsPlacedBy c m r p w a
      → IsTaken m r p w ⊎ StandsInSlot c m.cells r p w
