use Rattle.scq_judge.specs.Walking.{AreGone}
use Rattle.scq_judge.proofs.walking.are_orders.Given as goal

abbrev pub invariant-loop-i : goal.invariant-loop-i
invariant-loop-i l = AreGone l.history.opening.now l.history.events.now l.orders l.i l.least l.placed.items
