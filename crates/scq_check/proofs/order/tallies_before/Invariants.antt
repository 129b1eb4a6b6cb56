use Rattle.scq_check.specs.Exports.{AreTallies}
use Rattle.scq_check.proofs.Saved.{AreKept}
use Rattle.scq_check.proofs.order.tallies_before.Given as goal

abbrev pub invariant-loop-e : goal.invariant-loop-e
invariant-loop-e l = record { kept : AreKept l.opening l.events l.e l.queues; tallies : AreTallies l.opening l.events l.e l.tallies.items }
