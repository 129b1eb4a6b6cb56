use Rattle.scq_check.specs.Exports.{IsRefusals}
use Rattle.scq_check.proofs.refused.refusals.Given as goal

abbrev pub invariant-loop-e : goal.invariant-loop-e
invariant-loop-e l = IsRefusals l.events l.e l.refusals
