use Rattle.scq_check.proofs.Saved.{AreFoundBefore}
use Rattle.scq_check.proofs.verdicts.find.Given as goal

abbrev pub invariant-loop-e : goal.invariant-loop-e
invariant-loop-e l = AreFoundBefore l.opening l.events l.e l.queues l.found
