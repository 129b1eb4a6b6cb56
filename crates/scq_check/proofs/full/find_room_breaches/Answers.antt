use Rattle.scq_check.proofs.FailureLemmas.{failures_none, failures_more, failures_all}
use Rattle.scq_check.proofs.FullLemmas.{all_start, room_past}
use Rattle.scq_check.proofs.full.find_room_breaches.Goals as goal

pub loop-e-init : goal.loop-e-init
loop-e-init c = record {
  places = all_start _ _ _ _ c.new-places.ensures;
  failures = failures_none _ _ c.none-failures.ensures.first c.none-failures.ensures.count;
}

pub loop-e-preserved : goal.loop-e-preserved
loop-e-preserved c = record {
  places = c.in_ok-add.ensures;
  failures = rw c.with-failures.ensures (failures_more _ _ _ _ c.keeps_room_at.ensures c.loop-e.invariant.failures);
}

pub returns-clause-failures : goal.returns-clause-failures
returns-clause-failures c = failures_all _ _ _ _ c.loop-e-test.false c.loop-e.invariant.failures (room_past c.args.room c.args.opening.now c.args.events.now)
