use Rattle.std.proofs.Common.{◌≡◌, ◌+◌, ◌≤◌, ◌++◌}
use Rattle.std.specs.Prelude.{vec_len, vec_capacity}
use Rattle.std.specs.Prelude.{reverse}
use Rattle.scq_band.specs.Exports.{lifted, AllLaid}
use Rattle.scq_band.proofs.making.lift_all.Given as goal

abbrev pub invariant-loop-slot : goal.invariant-loop-slot
invariant-loop-slot g l =
    AllLaid l.slots.items × (lifted l.slots.items ++ reverse l.buffers.items ≡ lifted l.fn.slots.items)
    × (vec_len l.slots + vec_len l.buffers ≤ vec_capacity l.buffers)

abbrev pub decreases-loop-slot : goal.decreases-loop-slot
decreases-loop-slot g l = vec_len l.slots
