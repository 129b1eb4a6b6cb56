use Rattle.std.proofs.Common.{sym, ◌∙◌, ap, Some}
use Rattle.scq_check.proofs.history.add_line.Goals as goal

pub returns-in-Some-Happens-clause-unlawful : goal.returns-in-Some-Happens-clause-unlawful
returns-in-Some-Happens-clause-unlawful c at e =
    rw (sym c.in_ok-content.ensures ∙ c.in-Some-Happens.is ∙ ap Some c.in-Some-Happens.field-0-is) (c.add_event.ensures.unlawful at e)
