use Rattle.std.proofs.Common.{◌≡◌, ◌+◌, ◌≤◌, ◌++◌, map}
use Rattle.std.specs.Prelude.{vec_len, vec_capacity}
use Rattle.std.specs.Prelude.{reverse}
use Rattle.scq_band.specs.Exports.{full_slot}
use Rattle.scq_band.proofs.making.lay_all.Given as goal

abbrev pub invariant-loop-buffer : goal.invariant-loop-buffer
invariant-loop-buffer g l =
    (l.slots.items ++ map full_slot (reverse l.buffers.items) ≡ map full_slot l.fn.buffers.items) × (vec_len l.slots + vec_len l.buffers ≤ vec_capacity l.slots)
    × (vec_capacity l.buffers ≡ vec_capacity l.fn.buffers)

abbrev pub decreases-loop-buffer : goal.decreases-loop-buffer
decreases-loop-buffer g l = vec_len l.buffers
