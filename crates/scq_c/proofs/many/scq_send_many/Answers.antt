use Rattle.scq_c.specs.Exports.{OfSends}
use Rattle.scq_c.proofs.Somes.{answered}
use Rattle.scq_c.proofs.many.scq_send_many.Goals as goal

pub returns-clause-answered : goal.returns-clause-answered
returns-clause-answered c x was =
    answered (OfSends _ _ _ _ _) c.deref_mut.ensures.value c.in-Some.ensures.taken was c.put.ensures c.send_each-went.ensures
