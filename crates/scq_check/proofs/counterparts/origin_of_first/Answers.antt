use Rattle.std.proofs.Common.{◌∙◌, subst, sym}
use Rattle.std.specs.Prelude.{IfSome}
use Rattle.scq_check.specs.Exports.{IsOfOrigin, NamesNone}
use Rattle.scq_check.proofs.CounterpartLemmas.{read_first, told_there, none_named, origin_there}
use Rattle.scq_check.proofs.counterparts.origin_of_first.Goals as goal

pub returns-in_err-name-clause-first : goal.returns-in_err-name-clause-first
returns-in_err-name-clause-first c =
    absurd (subst (λ o. IfSome o (λ e. ¬ NamesNone c.args.events.now e)) c.in_ok-e.was c.requires.named
    (none_named _ _ _ (read_first _ _ _ _ c.in_ok-e.was c.requires.within c.index-events-e.is) (sym c.got_name.ensures ∙ c.in_err-name.was)))

pub returns-clause-first : goal.returns-clause-first
returns-clause-first c =
    told_there (IsOfOrigin c.args.opening.now c.args.events.now) _ _ _ c.in_ok-e.was
    (origin_there _ _ _ _ _ _ (read_first _ _ _ _ c.in_ok-e.was c.requires.within c.index-events-e.is) (sym c.got_name.ensures ∙ c.in_ok-name.was) c.origin_of.ensures.origin)
