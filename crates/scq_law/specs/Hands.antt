-- Each index has one home: it is in one seat's hand, once in that list, or in one entry of one
-- ring.
use Rattle.std.specs.Prelude.{◌≡◌, ℕ, ◌+◌, ◌<◌, false, ◌==◌, if◌then◌else◌, List, [], ◌∷◌}
use Rattle.scq_word.specs.declared.setup.Setup.{Setup}
use Rattle.scq_word.specs.Exports.{n_of, index_in, is_none_in}
use Rattle.scq_core.specs.Machine.{Machine}
use Rattle.scq_core.specs.Exports.{ring_slots}

-- how often an index stands in a hand
abbrev pub times : ℕ → List ℕ → ℕ
times i [] = 0
times i (x ∷ xs) = (if x == i then 1 else 0) + times i xs

-- where an index may be: in the hand of a seat, or in an entry
pub data Home : Type 0 where
  hand_of : (seat : ℕ) → Home
  in_slot : (ring slot : ℕ) → Home

-- an index is there: once in that hand, or as the index of that entry's word
abbrev pub IsHome : Setup → Machine → ℕ → Home → Type 0
IsHome c m i (hand_of k) = (k < c.seats) × (times i (m.part k).hand ≡ 1)
IsHome c m i (in_slot r s) =
    (r < c.rings) × (s < ring_slots c) × (index_in (ring_slots c) (m.cells.entries.word r s) ≡ i)

-- an index is in a hand at all, or in an entry, of whichever seat or ring
abbrev pub IsSeen : Setup → Machine → ℕ → Home → Type 0
IsSeen c m i (hand_of k) = 0 < times i (m.part k).hand
IsSeen c m i (in_slot r s) =
    (s < ring_slots c) × (index_in (ring_slots c) (m.cells.entries.word r s) ≡ i)

-- each index below n has one home, and is seen nowhere else; and hands and entries hold no other
-- index
pub record OneHand (c : Setup) (m : Machine) : Type 0 where
  pub home : (i : ℕ) → i < n_of c.order → (h : Home) × IsHome c m i h
  pub alone : (i : ℕ) (g h : Home) → i < n_of c.order → IsSeen c m i g → IsSeen c m i h → g ≡ h
  pub in_hands : (i k : ℕ) → 0 < times i (m.part k).hand → i < n_of c.order
  pub in_entries : (r s : ℕ) → s < ring_slots c
      → is_none_in (ring_slots c) (m.cells.entries.word r s) ≡ false
      → index_in (ring_slots c) (m.cells.entries.word r s) < n_of c.order
