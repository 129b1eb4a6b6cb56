use Rattle.scq_check.specs.Exports.{AreGetters}
use Rattle.scq_check.proofs.full.getters.Given as goal

abbrev pub invariant-loop-e : goal.invariant-loop-e
invariant-loop-e l = AreGetters l.events l.e l.flags.items
