use Rattle.std.proofs.Common.{[]}
use Rattle.scq_queue.specs.HoldsJust.{HoldsJust}
use Rattle.example_queue.proofs.send_numbers.Given as goal

abbrev pub invariant-numbers : goal.invariant-numbers
invariant-numbers l = HoldsJust l.queue l.pass []
