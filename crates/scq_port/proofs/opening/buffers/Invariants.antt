use Rattle.std.proofs.Common.{◌≡◌, ◌≤◌, ◌-◌, map}
use Rattle.std.specs.Prelude.{vec_len, vec_capacity}
use Rattle.scq_port.specs.Exports.{numbers_below, buffer_bytes}
use Rattle.scq_port.proofs.opening.buffers.Given as goal

abbrev pub invariant-loop-made : goal.invariant-loop-made
invariant-loop-made l =
    (map buffer_bytes l.made.items ≡ numbers_below (vec_len l.made)) × (vec_len l.made ≤ l.count) × (l.count ≤ vec_capacity l.made)

abbrev pub decreases-loop-made : goal.decreases-loop-made
decreases-loop-made l = l.count - vec_len l.made
