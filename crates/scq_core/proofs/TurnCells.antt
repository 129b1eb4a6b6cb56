-- Cells of a ring are words of the machine, and the cell of a turn is one of its ring.
use Rattle.std.proofs.Common.{◌≡◌, ℕ, ◌<◌, refl, List}
use Rattle.scq_word.specs.declared.setup.Setup.{Setup}
use Rattle.scq_word.proofs.TicketLemmas.{slot_of_small}
use Rattle.scq_core.specs.declared.phase.Phase.{Phase}
use Rattle.scq_core.specs.declared.phase.Phase.TheVariants.{Idle, AtE1, AtE2, AtE3, AtE4, AtE5, AtE6, AtD1, AtD2, AtD3, AtD4, AtD5, AtD6, AtD7, AtD8, AtD9, AtD10}
use Rattle.scq_core.specs.declared.slot.Cell.{Cell}
use Rattle.scq_core.specs.declared.slot.Cell.TheVariants as cell
use Rattle.scq_core.specs.Exports.{location_at, read, beside, ring_of, cell_of, RingLists, IsCell, word_in, content_in, cells_of, ring_in, no_slot}
use Rattle.scq_core.specs.Exports.{HasRings}

pub read-cell : (c : Setup) (rings : List RingLists) (r : ℕ) (p : Cell) → read (cells_of c rings) (location_at r p) ≡ word_in (no_slot c) (ring_in c rings r) p
read-cell c rings r cell.Tail = refl
read-cell c rings r cell.Head = refl
read-cell c rings r cell.Threshold = refl
read-cell c rings r (cell.Entry slot) = refl

pub beside-cell : (c : Setup) (rings : List RingLists) (r : ℕ) (p : Cell)
    → beside (cells_of c rings) (location_at r p) ≡ content_in (no_slot c) (ring_in c rings r) p
beside-cell c rings r cell.Tail = refl
beside-cell c rings r cell.Head = refl
beside-cell c rings r cell.Threshold = refl
beside-cell c rings r (cell.Entry slot) = refl

-- a turn's cell is one of its ring's
pub is_cell : (c : Setup) (rings : List RingLists) (turn : Phase) → HasRings c rings → ring_of turn < c.rings
    → IsCell (ring_in c rings (ring_of turn)) (cell_of c turn)
is_cell c rings Idle has low = tt
is_cell c rings (AtE1 r i w l) has low = tt
is_cell c rings (AtE2 r i w t l) has low = rw (has.1 r low) (slot_of_small c.order t)
is_cell c rings (AtE3 r i w t e) has low = tt
is_cell c rings (AtE4 r i w t e) has low = rw (has.1 r low) (slot_of_small c.order t)
is_cell c rings (AtE5 r i w t) has low = tt
is_cell c rings (AtE6 r i w t) has low = tt
is_cell c rings (AtD1 r) has low = tt
is_cell c rings (AtD2 r l) has low = tt
is_cell c rings (AtD3 r h l) has low = rw (has.1 r low) (slot_of_small c.order h)
is_cell c rings (AtD4 r h) has low = rw (has.1 r low) (slot_of_small c.order h)
is_cell c rings (AtD5 r h e) has low = rw (has.1 r low) (slot_of_small c.order h)
is_cell c rings (AtD6 r h) has low = tt
is_cell c rings (AtD7 r h from to) has low = tt
is_cell c rings (AtD8 r h from) has low = tt
is_cell c rings (AtD9 r h from to) has low = tt
is_cell c rings (AtD10 r h leaving) has low = tt
