use Rattle.std.proofs.Common.{◌≡◌, ℕ, ◌-◌, ◌<◌, ◌≤◌, true, false, length}
use Rattle.std.specs.Prelude.{slice_index_or, vec_capacity}
use Rattle.std.specs.Mem.Slots.{slots_items, slots_filled, slots_len}
use Rattle.scq_port.proofs.Gathering.{PassesAreGathered}
use Rattle.scq_port.proofs.ends.Ends.gather.Given as goal

abbrev pub invariant-loop-slot : goal.invariant-loop-slot
invariant-loop-slot l =
    (slots_items l.closed.slots ≡ slots_items l.initial.closed.slots) × (slots_len l.closed.slots ≡ slots_len l.initial.closed.slots)
    × (l.closed.words ≡ l.initial.closed.words) × (vec_capacity l.passes ≡ vec_capacity l.fn.passes) × (length l.passes.items ≤ l.slot)
    × (l.slot ≤ slots_len l.closed.slots)
    × ((k : ℕ) → k < l.slot → slice_index_or (slots_filled l.closed.slots) k false ≡ false)
    × ((k : ℕ) → l.slot ≤ k → k < slots_len l.closed.slots → slice_index_or (slots_filled l.closed.slots) k false ≡ true)
    × PassesAreGathered l.fn.self.table.shared.key.value (slots_items l.initial.closed.slots) l.slot l.passes.items l.values.items

abbrev pub decreases-loop-slot : goal.decreases-loop-slot
decreases-loop-slot l = slots_len l.closed.slots - l.slot
