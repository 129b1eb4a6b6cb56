use Rattle.std.proofs.Common.{[]}
use Rattle.scq_queue.specs.HoldsJust.{HoldsJust}
use Rattle.example_queue.proofs.rounds.send_rounds.Given as goal

abbrev pub invariant-rounds : goal.invariant-rounds
invariant-rounds g l = HoldsJust l.queue l.pass []
