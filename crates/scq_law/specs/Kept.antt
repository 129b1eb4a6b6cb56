-- How many indices are left in the rings and lie in hands, beside what was put into each ring and
-- got from it.
use Rattle.std.specs.Prelude.{◌≡◌, ℕ, ◌+◌, ◌≤◌, ◌==◌, if◌then◌else◌, length}
use Rattle.scq_word.specs.declared.setup.Setup.{Setup}
use Rattle.scq_word.specs.Exports.{n_of, is_none_in}
use Rattle.scq_core.specs.declared.ended.Ended.{Ended}
use Rattle.scq_core.specs.declared.ended.Ended.TheVariants.{Done, Got}
use Rattle.scq_core.specs.declared.phase.Phase.{Phase}
use Rattle.scq_core.specs.Exports.{stance_of, placed_ring, one_on, Cells, SeatPart, ring_slots}
use Rattle.scq_core.specs.Exports.{total}
use Rattle.scq_core.specs.Machine.{Machine}
use Rattle.scq_law.specs.Bounds.{tally, openings}
use Rattle.scq_law.specs.Sums.{sum_to}

-- 1 for a word that has an index
abbrev pub has_index : Setup → ℕ → ℕ
has_index c word = if is_none_in (ring_slots c) word then 0 else 1

-- how many slots of a ring have an index
abbrev pub left_in : Setup → Cells → ℕ → ℕ
left_in c m r = sum_to (λ s. has_index c (m.entries.word r s)) (ring_slots c)

-- how many slots of the rings below a number have one
abbrev pub left_below : Setup → Cells → ℕ → ℕ
left_below c m rings = sum_to (left_in c m) rings

-- 1 for a put of this ring that ended with Done
abbrev pub was_done : ℕ → Ended → ℕ
was_done r (Done q p w) = if q == r then 1 else 0
was_done r ended = 0

-- 1 for a get of this ring that took an index
abbrev pub was_got : ℕ → Ended → ℕ
was_got r (Got q p w) = if q == r then 1 else 0
was_got r ended = 0

-- 1 for a seat whose put has placed its index on this ring and has not ended
abbrev pub has_placed : ℕ → Phase → ℕ
has_placed r phase = one_on r (placed_ring (stance_of phase))

-- how many gets of a seat took an index from this ring
abbrev pub gets_of : ℕ → SeatPart → ℕ
gets_of r p = tally (was_got r) p.calls

-- how many puts of a seat placed an index on this ring
abbrev pub puts_of : ℕ → SeatPart → ℕ
puts_of r p = tally (was_done r) p.calls + has_placed r p.phase

-- on each ring, what is left and what gets took is what puts placed, the opening puts among them
pub record Balanced (c : Setup) (m : Machine) : Type 0 where
  pub balance : (r : ℕ) → left_in c m.cells r + total (gets_of r) m.part c.seats
      ≡ total (puts_of r) m.part c.seats + openings c r

-- what is left in all rings and what lies in all hands is n together, so no hand holds more than n
pub record AllKept (c : Setup) (m : Machine) : Type 0 where
  pub kept : left_below c m.cells c.rings + total (λ p. length p.hand) m.part c.seats ≡ n_of c.order
  pub fits : (k : ℕ) → length (m.part k).hand ≤ n_of c.order
