use Rattle.scq_check.proofs.FailureLemmas.{failures_none, failures_more, found_all}
use Rattle.scq_check.proofs.RefusedLemmas.{accepted_past}
use Rattle.scq_check.proofs.refused.refused_gots.Goals as goal

pub loop-e-init : goal.loop-e-init
loop-e-init c = failures_none _ _ c.none-failures.ensures.first c.none-failures.ensures.count

pub loop-e-preserved : goal.loop-e-preserved
loop-e-preserved c = rw c.with-failures.ensures (failures_more _ _ _ _ c.is_accepted_at.ensures c.loop-e.invariant)

pub returns : goal.returns
returns c = found_all _ _ _ _ c.loop-e-test.false c.loop-e.auto.e-end c.loop-e.invariant (accepted_past c.args.events.now)
