use Rattle.std.proofs.Common.{◌≡◌, ◌≤◌}
use Rattle.std.specs.Mem.Slots.{slots_items}
use Rattle.scq_law.specs.Exports.{sum_to}
use Rattle.scq_band.proofs.LeftWords.{index_count}
use Rattle.scq_band.proofs.leftovers.left_in_ring.Given as goal

abbrev pub invariant-loop-slot : goal.invariant-loop-slot
invariant-loop-slot g l = (l.left ≤ l.slot) × (l.left ≡ sum_to (index_count l.setup (slots_items l.closed.words) l.ring) l.slot)
