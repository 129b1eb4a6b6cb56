use Rattle.std.proofs.Common.{refl, arith}
use Rattle.scq_judge.proofs.CountLemmas.{before_none, before_all, start_within}
use Rattle.scq_judge.proofs.counting.count_calls.Goals as goal

pub loop-e-init : goal.loop-e-init
loop-e-init c = record { few = omega arith; count = before_none _ _ refl }

pub returns : goal.returns
returns c = before_all _ _ _ _ c.loop-e-test.false (start_within c.args.events.now) c.loop-e.invariant.count
