use Rattle.std.proofs.Common.{below_more}
use Rattle.std.proofs.lemmas.Bool.{iff_false}
use Rattle.scq_hist.proofs.Firsts.{everywhere, in_order_past}
use Rattle.scq_hist.proofs.order.first_out_of_order.Goals as goal

pub loop-e-preserved : goal.loop-e-preserved
loop-e-preserved c =
    below_more _ _ c.loop-e.invariant ((c.is_in_order_at.ensures c.args.opening.now c.opening_tally-tokens.ensures.tally).0 c.if-not-is_in_order_at.false)

pub returns-then-not-is_in_order_at-clause-first : goal.returns-then-not-is_in_order_at-clause-first
returns-then-not-is_in_order_at-clause-first c =
    (iff_false (c.is_in_order_at.ensures c.args.opening.now c.opening_tally-tokens.ensures.tally) c.if-not-is_in_order_at.true, c.loop-e.invariant)

pub returns-clause-first : goal.returns-clause-first
returns-clause-first c = everywhere _ _ _ c.loop-e-test.false c.loop-e.invariant (in_order_past c.args.opening.now c.args.events.now)
