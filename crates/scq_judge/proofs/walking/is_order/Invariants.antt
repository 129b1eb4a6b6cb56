use Rattle.std.proofs.Common.{take}
use Rattle.scq_judge.specs.Sequential.{held_by}
use Rattle.scq_judge.specs.Walking.{AreTakenFrom}
use Rattle.scq_judge.proofs.walking.is_order.Given as goal

abbrev pub invariant-loop-e : goal.invariant-loop-e
invariant-loop-e l =
    AreTakenFrom l.history.opening.now l.history.events.now l.order.queue (take l.e-index l.ends) (held_by l.walk.queue) l.walk.latest l.fn.placed l.placed
