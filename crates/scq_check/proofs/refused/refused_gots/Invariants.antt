use Rattle.scq_check.specs.Exports.{AreFailuresBefore, IsAcceptedAt}
use Rattle.scq_check.proofs.refused.refused_gots.Given as goal

abbrev pub invariant-loop-e : goal.invariant-loop-e
invariant-loop-e l = AreFailuresBefore (IsAcceptedAt l.events) l.e l.failures
