use Rattle.std.proofs.lemmas.Bool.{iff_false}
use Rattle.scq_judge.proofs.CountLemmas.{before_more, before_same}
use Rattle.scq_judge.proofs.counting.calls_after.Goals as goal

pub returns-then-is_start-clause-count : goal.returns-then-is_start-clause-count
returns-then-is_start-clause-count c = before_more _ _ _ (c.is_start.ensures.0 c.if-is_start.true) c.requires.count

pub returns-else-is_start-clause-count : goal.returns-else-is_start-clause-count
returns-else-is_start-clause-count c = before_same _ _ _ (iff_false c.is_start.ensures c.if-is_start.false) c.requires.count
