use Rattle.scq_check.specs.Exports.{AreFound}
use Rattle.scq_check.proofs.Holding.{none_iff_each}
use Rattle.scq_check.proofs.verdicts.judge.Goals as goal

pub returns-clause-verdict : goal.returns-clause-verdict
returns-clause-verdict c =
    let found : AreFound c.args.opening.now c.args.events.now c.in_ok-found.found = c.in_ok-found.ensures in
    record {
      fresh = (_, c.number_of.ensures.number, found.fresh.failures.first);
      once = (_, c.number_of-2.ensures.number, found.once.failures.first);
      in_order = (_, c.number_of-3.ensures.number, found.in_order.failures.first);
      empty_right = (_, c.number_of-4.ensures.number, found.empty_right.failures.first);
    }

pub returns-clause-holds : goal.returns-clause-holds
returns-clause-holds c =
    let found : AreFound c.args.opening.now c.args.events.now c.in_ok-found.found = c.in_ok-found.ensures in
    record {
      is_fresh = none_iff_each _ _ _ c.number_of.ensures.variant found.fresh.failures.first;
      is_once = none_iff_each _ _ _ c.number_of-2.ensures.variant found.once.failures.first;
      is_in_order = none_iff_each _ _ _ c.number_of-3.ensures.variant found.in_order.failures.first;
      is_empty_right = none_iff_each _ _ _ c.number_of-4.ensures.variant found.empty_right.failures.first;
    }
