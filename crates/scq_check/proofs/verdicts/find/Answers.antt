use Rattle.scq_hist.proofs.Firsts.{fresh_past, once_past, in_order_past, empty_right_past}
use Rattle.scq_check.proofs.FailureLemmas.{failures_more, found_all}
use Rattle.scq_check.proofs.Saved.{kept_more}
use Rattle.scq_check.proofs.TokenLemmas.{tokens_past}
use Rattle.scq_check.proofs.verdicts.find.Goals as goal

pub loop-e-preserved : goal.loop-e-preserved
loop-e-preserved c =
    let old = c.loop-e.invariant in
    let add = c.in_ok-add.ensures in
    let in_order = c.is_in_order_at-in_order.ensures c.args.opening.now (rw c.deref.ensures.value c.in_ok-tallies.ensures) old.kept.at in
    let empty_right = c.is_empty_right_at-empty_right.ensures c.args.opening.now old.kept.at in
    let token = c.is_token_in_order_at-token.ensures old.kept.at in
    record {
      kept = kept_more _ _ _ _ _ add.tokens add.small add.at old.kept;
      fresh = rw c.with-found.ensures (failures_more _ _ _ _ c.is_fresh_at.ensures old.fresh);
      once = rw c.with-found-in-loop-e.ensures (failures_more _ _ _ _ c.is_once_at.ensures old.once);
      in_order = rw c.with-found-in-loop-e-2.ensures (failures_more _ _ _ _ in_order old.in_order);
      empty_right = rw c.with-found-in-loop-e-3.ensures (failures_more _ _ _ _ empty_right old.empty_right);
      tokens = rw c.with-found-in-loop-e-4.ensures (failures_more _ _ _ _ token old.tokens);
    }

pub returns : goal.returns
returns c =
    let is = c.loop-e.invariant in
    let opening = c.args.opening.now in
    let events = c.args.events.now in
    record {
      fresh = found_all _ _ _ _ c.loop-e-test.false c.loop-e.auto.e-end is.fresh (fresh_past opening events);
      once = found_all _ _ _ _ c.loop-e-test.false c.loop-e.auto.e-end is.once (once_past events);
      in_order = found_all _ _ _ _ c.loop-e-test.false c.loop-e.auto.e-end is.in_order (in_order_past opening events);
      empty_right = found_all _ _ _ _ c.loop-e-test.false c.loop-e.auto.e-end is.empty_right (empty_right_past opening events);
      tokens = found_all _ _ _ _ c.loop-e-test.false c.loop-e.auto.e-end is.tokens (tokens_past opening events);
    }
