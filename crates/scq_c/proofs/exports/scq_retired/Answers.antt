use Rattle.scq_c.specs.Exports.{OfRetired}
use Rattle.scq_c.proofs.Somes.{answered}
use Rattle.scq_c.proofs.exports.scq_retired.Goals as goal

pub returns-clause-answered : goal.returns-clause-answered
returns-clause-answered c x was =
    answered (OfRetired _) c.deref_mut.ensures.value c.in-Some.ensures.taken was c.put.ensures c.asked-answer.ensures
