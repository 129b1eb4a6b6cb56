use Rattle.scq_judge.specs.Exports.{RiseBelow}
use Rattle.scq_judge.proofs.merging.first_equal.Given as goal

abbrev pub invariant-loop-i : goal.invariant-loop-i
invariant-loop-i l = RiseBelow l.stamped l.i
