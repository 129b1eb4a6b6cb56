use Rattle.std.proofs.Common.{[]}
use Rattle.scq_queue.specs.HoldsJust.{HoldsJust}
use Rattle.example_queue.proofs.take_numbers.Given as goal

abbrev pub invariant-looks : goal.invariant-looks
invariant-looks l = HoldsJust l.queue l.pass []
