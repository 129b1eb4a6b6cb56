use Rattle.scq_c.specs.Exports.{OfGiveBacks}
use Rattle.scq_c.proofs.Somes.{answered}
use Rattle.scq_c.proofs.many.scq_give_back_many.Goals as goal

pub returns-clause-answered : goal.returns-clause-answered
returns-clause-answered c x was =
    answered (OfGiveBacks _ _ _) c.deref_mut.ensures.value c.in-Some.ensures.taken was c.put.ensures c.give_back_each-went.ensures
