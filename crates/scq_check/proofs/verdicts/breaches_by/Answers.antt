use Rattle.scq_check.specs.Exports.{AreFound}
use Rattle.scq_check.proofs.CounterpartLemmas.{fresh_without, in_order_without, names_some}
use Rattle.scq_check.proofs.verdicts.breaches_by.Goals as goal

pub origin_of_first-requires-clause-named : goal.origin_of_first-requires-clause-named
origin_of_first-requires-clause-named c =
    let found : AreFound c.args.opening.now c.args.events.now c.in_ok-found.found = c.in_ok-found.ensures in
    names_some _ _ _ (fresh_without c.args.opening.now c.args.events.now) found.fresh.failures.first

pub origin_of_first-requires-2-clause-named : goal.origin_of_first-requires-2-clause-named
origin_of_first-requires-2-clause-named c =
    let found : AreFound c.args.opening.now c.args.events.now c.in_ok-found.found = c.in_ok-found.ensures in
    names_some _ _ _ (in_order_without c.args.opening.now c.args.events.now) found.in_order.failures.first

pub returns-clause-breaches : goal.returns-clause-breaches
returns-clause-breaches c =
    let found : AreFound c.args.opening.now c.args.events.now c.in_ok-found.found = c.in_ok-found.ensures in
    record {
      fresh = found.fresh.failures;
      once = found.once.failures;
      in_order = found.in_order.failures;
      empty_right = found.empty_right.failures;
      accepted = c.in_ok-accepted.ensures.failures;
      tokens = found.tokens.failures;
      endings = c.count_endings.ensures;
      against = record {
        fresh = c.origin_of_first.ensures.first;
        once = c.named_first.ensures.first;
        in_order = c.overtaken.ensures.first;
        overtaker = c.origin_of_first-2.ensures.first;
        empty_right = c.waiting_beside.ensures.first;
        accepted = c.in_ok-refused.ensures.first;
      };
    }

pub returns-clause-within : goal.returns-clause-within
returns-clause-within c =
    let found : AreFound c.args.opening.now c.args.events.now c.in_ok-found.found = c.in_ok-found.ensures in
    record {
      fresh = found.fresh.within;
      once = found.once.within;
      in_order = found.in_order.within;
      empty_right = found.empty_right.within;
      accepted = c.in_ok-accepted.ensures.within;
      opening = found.tokens.within;
      origin = c.origin_of_first.ensures.within;
      named = c.named_first.ensures.within;
      overtaken = c.overtaken.ensures.within;
      overtaker = c.origin_of_first-2.ensures.within;
      waiting = c.waiting_beside.ensures.within;
      refused = c.in_ok-refused.ensures.within;
    }
