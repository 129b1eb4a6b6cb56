use Rattle.scq_check.proofs.FailureLemmas.{failures_none, failures_more, failures_all}
use Rattle.scq_check.proofs.WaitingLemmas.{tokens_past}
use Rattle.scq_check.proofs.waiting.waiting_tokens.Goals as goal

pub loop-number-init : goal.loop-number-init
loop-number-init c = failures_none _ _ c.none-failures.ensures.first c.none-failures.ensures.count

pub loop-number-preserved : goal.loop-number-preserved
loop-number-preserved c = rw c.with-failures.ensures (failures_more _ _ _ _ c.is_token_left_out.ensures c.loop-number.invariant)

pub returns-clause-failures : goal.returns-clause-failures
returns-clause-failures c =
    failures_all _ _ _ _ c.loop-number-test.false c.loop-number.invariant (tokens_past c.args.sought c.args.opening.now c.args.events.now c.args.queue c.args.e)
