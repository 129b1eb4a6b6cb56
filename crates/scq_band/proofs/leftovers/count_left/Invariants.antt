use Rattle.std.proofs.Common.{◌≡◌, ℕ, ◌<◌, length, slice_index, vec_capacity}
use Rattle.std.specs.Mem.Slots.{slots_items}
use Rattle.scq_core.specs.Exports.{Cells}
use Rattle.scq_law.specs.Exports.{left_in}
use Rattle.scq_band.specs.Exports.{ShowsWords}
use Rattle.scq_band.proofs.leftovers.count_left.Given as goal

abbrev pub invariant-loop-ring : goal.invariant-loop-ring
invariant-loop-ring g l =
    (length l.left.items ≡ l.ring) × (vec_capacity l.left ≡ vec_capacity l.fn.left)
    × ((m : Cells) → ShowsWords l.setup (slots_items l.closed.words) m → (r : ℕ) → r < l.ring
    → slice_index l.left.items r ≡ left_in l.setup m r)
