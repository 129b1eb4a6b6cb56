use Rattle.scq_judge.specs.OwnCalls.{AreOwnCalls}
use Rattle.scq_judge.proofs.own_calls.OwnCalls.new.Given as goal

abbrev pub invariant-loop-e : goal.invariant-loop-e
invariant-loop-e l = AreOwnCalls l.events l.e l.calls
