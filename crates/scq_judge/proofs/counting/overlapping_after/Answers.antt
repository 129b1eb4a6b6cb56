use Rattle.std.proofs.lemmas.Bool.{iff_false}
use Rattle.scq_judge.proofs.CountLemmas.{before_more, before_same}
use Rattle.scq_judge.proofs.counting.overlapping_after.Goals as goal

pub returns-then-overlaps-clause-count : goal.returns-then-overlaps-clause-count
returns-then-overlaps-clause-count c = before_more _ _ _ (c.overlaps.ensures.0 c.if-overlaps.true) c.requires.count

pub returns-else-overlaps-clause-count : goal.returns-else-overlaps-clause-count
returns-else-overlaps-clause-count c = before_same _ _ _ (iff_false c.overlaps.ensures c.if-overlaps.false) c.requires.count
