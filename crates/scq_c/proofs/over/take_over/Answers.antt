use Rattle.std.proofs.Common.{◌∙◌, ap, Some}
use Rattle.scq_c.specs.Exports.{TakeAnswered}
use Rattle.scq_c.proofs.Somes.{answered}
use Rattle.scq_c.proofs.over.take_over.Goals as goal

pub returns-clause-answered : goal.returns-clause-answered
returns-clause-answered c x was =
    answered (TakeAnswered _ c.take-answer.result) (c.deref_mut.ensures.value ∙ c.into_box-port.ensures) c.in-Some.ensures was
    (c.of-2.ensures ∙ ap (λ p. Some p) c.of.ensures) c.take-answer.ensures
