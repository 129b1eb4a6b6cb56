use Rattle.std.proofs.Common.{refl}
use Rattle.scq_judge.proofs.CountLemmas.{seen_none, seen_all}
use Rattle.scq_judge.proofs.counting.count_named.Goals as goal

pub loop-e-init : goal.loop-e-init
loop-e-init c = seen_none _ _ _ _ c.new-seen.ensures refl

pub returns : goal.returns
returns c = seen_all _ _ _ _ _ c.loop-e-test.false c.loop-e.invariant
