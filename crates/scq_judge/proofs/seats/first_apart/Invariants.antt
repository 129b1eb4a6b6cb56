use Rattle.scq_judge.specs.Exports.{AreHomes}
use Rattle.scq_judge.proofs.seats.first_apart.Given as goal

abbrev pub invariant-loop-i : goal.invariant-loop-i
invariant-loop-i l = AreHomes l.events l.i l.homes
