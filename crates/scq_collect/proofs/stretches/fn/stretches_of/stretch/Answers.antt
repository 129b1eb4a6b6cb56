use Rattle.std.proofs.Common.{List, Bor, subst}
use Rattle.std.specs.Prelude.{IfOk}
use Rattle.std.proofs.lemmas.List.{get_or_default}
use Rattle.scq_collect.specs.declared.spans.Span.{Span}
use Rattle.scq_collect.specs.Exports.{IsMadeOf}
use Rattle.scq_collect.proofs.stretches.fn.stretches_of.stretch.Goals as goal

pub returns : goal.returns
returns c = λ answers d laid.
    subst (λ (cut : Bor (List Span)). IfOk c.stretch_of.result (λ s. IsMadeOf c.captures.given.now.topics.now answers cut.now s))
    (get_or_default c.captures.cuts.now c.args.n _ d c.requires.0) (c.stretch_of.ensures answers laid)
