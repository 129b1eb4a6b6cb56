use Rattle.std.proofs.Common.{◌-◌, length}
use Rattle.rows_queue.proofs.calls.write.Given as goal

abbrev pub decreases-loop-at : goal.decreases-loop-at
decreases-loop-at l = length l.initial.bytes - l.at
