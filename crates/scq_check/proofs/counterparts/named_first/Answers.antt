use Rattle.std.proofs.Common.{◌∙◌, sym}
use Rattle.scq_check.specs.Exports.{IsRepeatOf}
use Rattle.scq_check.proofs.CounterpartLemmas.{read_first, fails_there, told_there, repeat_there, no_repeat}
use Rattle.scq_check.proofs.WaitingLemmas.{first_within}
use Rattle.scq_check.proofs.counterparts.named_first.Goals as goal

pub returns-in_err-name-clause-first : goal.returns-in_err-name-clause-first
returns-in_err-name-clause-first c =
    absurd (fails_there _ _ _ c.in_ok-e.was c.requires.failures.first
    (no_repeat _ _ _ (read_first _ _ _ _ c.in_ok-e.was c.requires.within c.index-events-e.is) (sym c.got_name.ensures ∙ c.in_err-name.was)))

pub returns-clause-first : goal.returns-clause-first
returns-clause-first c =
    told_there (IsRepeatOf c.args.events.now) _ _ _ c.in_ok-e.was
    (repeat_there _ _ _ _ _ (read_first _ _ _ _ c.in_ok-e.was c.requires.within c.index-events-e.is) (sym c.got_name.ensures ∙ c.in_ok-name.was) c.first_named.ensures)

pub returns-clause-within : goal.returns-clause-within
returns-clause-within c = first_within _ _ _ c.first_named.ensures
