use Rattle.std.proofs.Common.{refl, arith}
use Rattle.scq_check.proofs.EndingLemmas.{ending_within}
use Rattle.scq_check.proofs.FullLemmas.{before_none, before_all, more_by}
use Rattle.scq_check.proofs.endings.count_ending.Goals as goal

pub loop-e-init : goal.loop-e-init
loop-e-init c = record { few = omega arith; count = before_none _ _ refl }

pub loop-e-preserved : goal.loop-e-preserved
loop-e-preserved c = record {
  few = (let few = c.counted-count.ensures.few in let was = c.loop-e.invariant.few in omega arith);
  count = rw c.counted-count.ensures.value (more_by _ _ _ _ c.ends_so.ensures c.loop-e.invariant.count);
}

pub returns : goal.returns
returns c = before_all _ _ _ _ c.loop-e-test.false (ending_within c.args.events.now c.args.ending) c.loop-e.invariant.count
