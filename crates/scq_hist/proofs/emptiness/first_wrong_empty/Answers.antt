use Rattle.std.proofs.Common.{below_more}
use Rattle.std.proofs.lemmas.Bool.{iff_false}
use Rattle.scq_hist.proofs.Firsts.{everywhere, empty_right_past}
use Rattle.scq_hist.proofs.emptiness.first_wrong_empty.Goals as goal

pub loop-e-preserved : goal.loop-e-preserved
loop-e-preserved c = below_more _ _ c.loop-e.invariant
    ((c.is_empty_right_at.ensures c.args.opening.now c.opening_tally-tokens.ensures.tally).0 c.if-not-is_empty_right_at.false)

pub returns-then-not-is_empty_right_at-clause-first : goal.returns-then-not-is_empty_right_at-clause-first
returns-then-not-is_empty_right_at-clause-first c =
    (iff_false (c.is_empty_right_at.ensures c.args.opening.now c.opening_tally-tokens.ensures.tally) c.if-not-is_empty_right_at.true, c.loop-e.invariant)

pub returns-clause-first : goal.returns-clause-first
returns-clause-first c = everywhere _ _ _ c.loop-e-test.false c.loop-e.invariant (empty_right_past c.args.opening.now c.args.events.now)
