use Rattle.scq_judge.specs.Exports.{AreSeen}
use Rattle.scq_judge.proofs.counting.count_named.Given as goal

abbrev pub invariant-loop-e : goal.invariant-loop-e
invariant-loop-e l = AreSeen l.named l.events l.e l.seen l.count
