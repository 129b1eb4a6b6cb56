use Rattle.std.proofs.Common.{◌≡◌, ◌≤◌, ◌-◌, length}
use Rattle.scq_c.specs.Exports.{ports_of, memories_of}
use Rattle.scq_c.proofs.Handed.{NoneBelow}
use Rattle.scq_c.proofs.opening.any_open.Given as goal

abbrev pub invariant-loop-k : goal.invariant-loop-k
invariant-loop-k l =
    (ports_of l.ports ≡ ports_of l.fn.ports) × (memories_of l.ports ≡ memories_of l.fn.ports) × (l.k ≤ length l.ports)
    × NoneBelow l.k (ports_of l.ports)

abbrev pub decreases-loop-k : goal.decreases-loop-k
decreases-loop-k l = length l.ports - l.k
