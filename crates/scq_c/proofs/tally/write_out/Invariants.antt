use Rattle.std.proofs.Common.{◌≤◌, ◌-◌, length}
use Rattle.scq_c.proofs.Written.{AreWrittenBelow}
use Rattle.scq_c.proofs.tally.write_out.Given as goal

abbrev pub invariant-loop-k : goal.invariant-loop-k
invariant-loop-k l = AreWrittenBelow l.k l.counts l.fn.out l.out × (l.k ≤ length l.counts)

abbrev pub decreases-loop-k : goal.decreases-loop-k
decreases-loop-k l = length l.counts - l.k
