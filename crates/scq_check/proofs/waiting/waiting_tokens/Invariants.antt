use Rattle.scq_check.specs.Exports.{AreFailuresBefore, IsTokenLeftOut}
use Rattle.scq_check.proofs.waiting.waiting_tokens.Given as goal

abbrev pub invariant-loop-number : goal.invariant-loop-number
invariant-loop-number l = AreFailuresBefore (IsTokenLeftOut l.sought l.opening l.events l.queue l.e) l.number l.failures
