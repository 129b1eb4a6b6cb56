use Rattle.scq_check.proofs.FailureLemmas.{failures_none, failures_more, failures_all}
use Rattle.scq_check.proofs.WaitingLemmas.{puts_past}
use Rattle.scq_check.proofs.waiting.waiting_puts.Goals as goal

pub loop-d-init : goal.loop-d-init
loop-d-init c = failures_none _ _ c.none-failures.ensures.first c.none-failures.ensures.count

pub loop-d-preserved : goal.loop-d-preserved
loop-d-preserved c =
    rw c.with-failures.ensures (failures_more _ _ _ _ (c.is_put_left_out.ensures c.args.m c.loop-d-test.true) c.loop-d.invariant)

pub returns-clause-failures : goal.returns-clause-failures
returns-clause-failures c =
    failures_all _ _ _ _ c.loop-d-test.false c.loop-d.invariant (puts_past c.args.sought c.args.events.now c.args.queue c.args.m c.args.e)
