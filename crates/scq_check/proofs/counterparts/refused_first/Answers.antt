use Rattle.scq_check.specs.Exports.{IsOfRefused}
use Rattle.scq_check.proofs.CounterpartLemmas.{read_first, fails_there, told_there, refused_there, refused_within}
use Rattle.scq_check.proofs.RefusedLemmas.{accepted_other}
use Rattle.scq_check.proofs.counterparts.refused_first.Goals as goal

pub returns-in-Some-named_put-clause-first : goal.returns-in-Some-named_put-clause-first
returns-in-Some-named_put-clause-first c =
    told_there (IsOfRefused c.args.events.now) _ _ _ c.in-Some.is
    (refused_there _ _ _ _ _ _ _ c.get.ensures (read_first _ _ _ _ c.in-Some.is c.requires.within c.index-events-e.is) c.in-Some-named_put.ensures c.in_ok-refusals.ensures
    (fails_there _ _ _ c.in-Some.is c.requires.failures.first))

pub returns-in-Some-named_put-clause-within : goal.returns-in-Some-named_put-clause-within
returns-in-Some-named_put-clause-within c = refused_within _ _ _ _ _ c.get.ensures c.in_ok-refusals.ensures

pub returns-clause-first : goal.returns-clause-first
returns-clause-first c =
    absurd (fails_there _ _ _ c.in-Some.is c.requires.failures.first
    (accepted_other _ _ _ (read_first _ _ _ _ c.in-Some.is c.requires.within c.index-events-e.is) c.in-None.ensures))
