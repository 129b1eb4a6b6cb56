use Rattle.std.specs.Prelude.{vec_len}
use Rattle.scq_queue.proofs.Leaving.{AreOut}
use Rattle.scq_queue.proofs.queue.Queue.leave.Given as goal

abbrev pub invariant-loop-place : goal.invariant-loop-place
invariant-loop-place g l = AreOut l.self l.seat l.held.items

abbrev pub decreases-loop-place : goal.decreases-loop-place
decreases-loop-place g l = vec_len l.held
