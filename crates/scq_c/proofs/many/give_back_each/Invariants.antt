use Rattle.std.proofs.Common.{◌-◌, length}
use Rattle.scq_c.specs.Exports.{OfSlotGiveBack}
use Rattle.scq_c.proofs.Rows.{WentSoFar}
use Rattle.scq_c.proofs.many.give_back_each.Given as goal

abbrev pub invariant-loop-k : goal.invariant-loop-k
invariant-loop-k l = WentSoFar OfSlotGiveBack l.k l.slots l.slots l.fn.port l.port

abbrev pub decreases-loop-k : goal.decreases-loop-k
decreases-loop-k l = length l.slots - l.k
