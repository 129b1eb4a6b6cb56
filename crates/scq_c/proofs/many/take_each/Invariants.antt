use Rattle.std.proofs.Common.{◌-◌, length}
use Rattle.scq_c.specs.Exports.{OfTake}
use Rattle.scq_c.proofs.Rows.{WentSoFar}
use Rattle.scq_c.proofs.many.take_each.Given as goal

abbrev pub invariant-loop-k : goal.invariant-loop-k
invariant-loop-k l = WentSoFar (OfTake l.topic) l.k l.fn.out l.out l.fn.port l.port

abbrev pub decreases-loop-k : goal.decreases-loop-k
decreases-loop-k l = length l.out - l.k
