use Rattle.scq_law.specs.Exports.{run_of}
use Rattle.scq_law.proofs.Order.MarkedRuns.{IsMarking}
use Rattle.scq_law.proofs.ordering.marked.Given as goal

abbrev pub invariant-loop-at : goal.invariant-loop-at
invariant-loop-at l = IsMarking (run_of l.fn.setup l.fn.opening.items l.steps) l.ring l.at l.marking
