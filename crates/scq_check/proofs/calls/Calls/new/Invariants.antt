use Rattle.scq_check.specs.Exports.{IsCalls}
use Rattle.scq_check.proofs.calls.Calls.new.Given as goal

abbrev pub invariant-loop-e : goal.invariant-loop-e
invariant-loop-e l = IsCalls l.events l.e l.calls
