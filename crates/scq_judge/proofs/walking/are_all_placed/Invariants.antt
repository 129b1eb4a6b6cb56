use Rattle.scq_judge.specs.Walking.{AreAllPlaced}
use Rattle.scq_judge.proofs.walking.are_all_placed.Given as goal

abbrev pub invariant-loop-e : goal.invariant-loop-e
invariant-loop-e l = AreAllPlaced l.history.events.now l.placed l.e
