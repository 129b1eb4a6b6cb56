use Rattle.std.proofs.Common.{◌-◌, length}
use Rattle.scq_c.specs.Exports.{OfSlotSend}
use Rattle.scq_c.proofs.Rows.{WentSoFar}
use Rattle.scq_c.proofs.many.send_each.Given as goal

abbrev pub invariant-loop-k : goal.invariant-loop-k
invariant-loop-k l = WentSoFar (OfSlotSend l.topic) l.k l.fn.slots l.slots l.fn.port l.port

abbrev pub decreases-loop-k : goal.decreases-loop-k
decreases-loop-k l = length l.slots - l.k
