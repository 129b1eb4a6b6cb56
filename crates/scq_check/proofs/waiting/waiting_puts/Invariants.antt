use Rattle.scq_check.specs.Exports.{AreFailuresBefore, IsPutLeftOut}
use Rattle.scq_check.proofs.waiting.waiting_puts.Given as goal

abbrev pub invariant-loop-d : goal.invariant-loop-d
invariant-loop-d l = AreFailuresBefore (IsPutLeftOut l.sought l.events l.queue l.m l.e) l.d l.failures
