-- For private calls: the rings of the start as lists: one in which nothing was ever placed, and one
-- in which each index stands.
use Rattle.std.specs.Prelude.{ℕ, ◌≡◌, ◌+◌, ◌-◌, List, ◌∷◌, length, replicate, slice_index_or}
use Rattle.scq_word.specs.declared.setup.Setup.{Setup}
use Rattle.scq_word.specs.Exports.{n_of}
use Rattle.scq_core.specs.declared.slot.Slot.{Slot}
use Rattle.scq_core.specs.Table.{ring_slots, zero_level, reset_level}
use Rattle.scq_core.specs.Start.{filled, filled_contents}
use Rattle.scq_core.specs.Rings.{RingLists}
use Rattle.scq_core.specs.StateLists.{no_slot}

-- Head and Tail at the number of slots, Threshold at -1, and no slot used
abbrev pub empty_ring : Setup → RingLists
empty_ring c =
    record {
      tail = ring_slots c;
      head = ring_slots c;
      threshold = zero_level - 1;
      slots =
          replicate (ring_slots c) (no_slot c);
    }

-- the indices below a count stand in these slots, each with its opening content
pub record SlotsAreFilled (c : Setup) (opening : List (List ℕ)) (count : ℕ)
    (slots : List Slot) : Type 0 where
  pub many : length slots ≡ ring_slots c
  pub words : (s : ℕ) → (slice_index_or slots s (no_slot c)).word ≡ filled c count s
  pub contents : (s : ℕ)
      → (slice_index_or slots s (no_slot c)).content ≡ filled_contents c opening count s

-- the ring in which each index stands, as after as many puts
pub record IsFullRing (c : Setup) (opening : List (List ℕ)) (ring : RingLists) : Type 0 where
  pub tail : ring.tail ≡ ring_slots c + n_of c.order
  pub head : ring.head ≡ ring_slots c
  pub threshold : ring.threshold ≡ reset_level c
  pub slots : SlotsAreFilled c opening (n_of c.order) ring.slots

-- ring 0 of the start, and so many rings more
pub record IsStart (c : Setup) (opening : List (List ℕ)) (more : ℕ)
    (rings : List RingLists) : Type 0 where
  pub first : RingLists
  pub full : IsFullRing c opening first
  pub all : rings ≡ first ∷ replicate more (empty_ring c)
