-- For private calls: what the running code keeps of a ring.
use Rattle.std.specs.Prelude.{◌≡◌, ℕ, suc, ◌-◌, ◌^◌, ◌<◌, true, List, [], ◌∷◌, length}
use Rattle.scq_word.specs.declared.setup.Setup.{Setup}
use Rattle.scq_core.specs.Exports.{tail_of, ring_slots, cycle, reset_level}
use Rattle.scq_word.specs.Exports.{n_of, mark_of, packed, cycle_in, safe_in, is_none_in}
use Rattle.scq_band.specs.declared.ring.Ring.{Ring}
use Rattle.scq_band.specs.Layout.{at, column_bits}

-- it is a ring of this setup
pub record IsRing (c : Setup) (ring : Ring) : Type 0 where
  pub low : ring.number < c.rings
  pub order : ring.shape.order ≡ c.order
  pub mark : ring.mark ≡ mark_of (ring_slots c)
  pub limit : ring.limit ≡ c.limit
  pub tail : ring.tail ≡ at c (tail_of ring.number)
  pub level : ring.level ≡ reset_level c
  pub rows : ring.columns.row_mask ≡ 2 ^ column_bits c.order - 1
  pub columns : ring.columns.bits ≡ column_bits c.order

-- it is the entry that a put of some index leaves at a ticket
pub record IsFilled (c : Setup) (ticket word : ℕ) : Type 0 where
  pub index : ℕ
  pub small : index < n_of c.order
  pub is : word ≡ packed (ring_slots c) (cycle c ticket) 1 index

-- it is of an earlier cycle than the ticket, safe, and has no index
pub record IsPlainlyVacant (c : Setup) (ticket word : ℕ) : Type 0 where
  pub earlier : cycle_in (ring_slots c) word < cycle c ticket
  pub none : is_none_in (ring_slots c) word ≡ true
  pub safe : safe_in (ring_slots c) word ≡ 1

-- these are rings of this setup, from number k on
abbrev pub RingsFrom : Setup → ℕ → List Ring → Type 0
RingsFrom c k [] = Unit {0}
RingsFrom c k (x ∷ xs) = ((x.number ≡ k) × IsRing c x) × RingsFrom c (suc k) xs

-- these are the first n rings of this setup, in the order of their numbers
pub record AreRings (c : Setup) (n : ℕ) (rings : List Ring) : Type 0 where
  pub count : length rings ≡ n
  pub each : RingsFrom c 0 rings
