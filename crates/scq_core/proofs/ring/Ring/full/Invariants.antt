use Rattle.scq_core.specs.Exports.{SlotsAreFilled}
use Rattle.scq_core.proofs.ring.Ring.full.Given as goal

abbrev pub invariant-loop-index : goal.invariant-loop-index
invariant-loop-index l = SlotsAreFilled l.setup l.opening.items l.index l.slots.items
