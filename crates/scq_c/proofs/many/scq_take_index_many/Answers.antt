use Rattle.scq_c.specs.Exports.{OfTake, OfMany}
use Rattle.scq_c.proofs.Somes.{answered}
use Rattle.scq_c.proofs.many.scq_take_index_many.Goals as goal

pub returns-clause-answered : goal.returns-clause-answered
returns-clause-answered c x was =
    answered (OfMany (OfTake _) _ _ _ _) c.deref_mut.ensures.value c.in-Some.ensures.taken was c.put.ensures c.take_each-went.ensures
