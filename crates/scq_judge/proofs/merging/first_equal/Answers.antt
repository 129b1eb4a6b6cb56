use Rattle.std.proofs.lemmas.Bool.{iff_false}
use Rattle.scq_judge.proofs.MergeLemmas.{rise_one, rise_more, rise_all, equal_there}
use Rattle.scq_judge.proofs.merging.first_equal.Goals as goal

pub loop-i-init : goal.loop-i-init
loop-i-init c = rise_one _

pub loop-i-preserved : goal.loop-i-preserved
loop-i-preserved c = rise_more _ _ c.loop-i.auto.i (c.is_above.ensures.0 c.if-not-is_above.false) c.loop-i.invariant

pub returns-then-not-is_above : goal.returns-then-not-is_above
returns-then-not-is_above c =
    equal_there _ _ _ _ c.loop-i.auto.i c.loop-i-test.true (iff_false c.is_above.ensures c.if-not-is_above.true) c.place_at-place.ensures c.place_at-other.ensures c.requires

pub returns : goal.returns
returns c = rise_all _ _ c.loop-i-test.false c.loop-i.invariant
