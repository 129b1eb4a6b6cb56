use Rattle.std.proofs.Common.{◌≡◌, ◌≤◌, ◌-◌, length}
use Rattle.scq_c.specs.Exports.{ports_of}
use Rattle.scq_c.proofs.Handed.{ToldBelow}
use Rattle.scq_c.proofs.opening.tell.Given as goal

abbrev pub invariant-loop-k : goal.invariant-loop-k
invariant-loop-k l = (ports_of l.ports ≡ ports_of l.fn.ports) × (l.k ≤ length l.ports) × ToldBelow l.k l.memory l.ports

abbrev pub decreases-loop-k : goal.decreases-loop-k
decreases-loop-k l = length l.ports - l.k
