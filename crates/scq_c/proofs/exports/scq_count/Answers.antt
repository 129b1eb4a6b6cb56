use Rattle.scq_c.specs.Exports.{OfCount}
use Rattle.scq_c.proofs.Somes.{answered}
use Rattle.scq_c.proofs.exports.scq_count.Goals as goal

pub returns-clause-answered : goal.returns-clause-answered
returns-clause-answered c x was =
    answered (OfCount _ _ _ _) c.deref_mut.ensures.value c.in-Some.ensures.taken was c.put.ensures c.count_into-answer.ensures
