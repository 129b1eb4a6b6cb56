use Rattle.scq_check.specs.Exports.{IsGots}
use Rattle.scq_check.proofs.gots.Gots.new.Given as goal

abbrev pub invariant-loop-e : goal.invariant-loop-e
invariant-loop-e l = IsGots l.events l.e l.gots
