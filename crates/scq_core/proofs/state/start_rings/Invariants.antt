use Rattle.scq_core.specs.Exports.{IsStart}
use Rattle.scq_core.proofs.state.start_rings.Given as goal

abbrev pub invariant-loop : goal.invariant-loop
invariant-loop l = IsStart l.setup l.opening.items l.counter l.rings.items
