use Rattle.std.proofs.Common.{◌∙◌, Some, ap, refl}
use Rattle.scq_hist.proofs.NamesLemmas.{read}
use Rattle.scq_hist.proofs.EndedLemmas.{empty_there, no_empty_end, no_empty_put}
use Rattle.scq_check.proofs.EndedLemmas.{own_call}
use Rattle.scq_check.proofs.order.empty_at.Goals as goal

pub returns-in_err-nothing_end : goal.returns-in_err-nothing_end
returns-in_err-nothing_end c = rw c.from_residual.ensures (no_empty_end _ _ _ (read _ _ _ _ c.requires.within c.index-events-e.is refl) c.in_err-nothing_end.ensures)

pub returns-in-Get : goal.returns-in-Get
returns-in-Get c =
    empty_there _ _ _ _ _ _
    (own_call _ _ _ _ _ _ c.call_of-call.ensures (read _ _ _ _ c.requires.within c.index-events-e.is refl ∙ ap Some c.in_ok-nothing_end.ensures)) c.in-Get.is

pub returns-in-Put : goal.returns-in-Put
returns-in-Put c =
    no_empty_put _ _ _ _ _ _ _ _
    (own_call _ _ _ _ _ _ c.call_of-call.ensures (read _ _ _ _ c.requires.within c.index-events-e.is refl ∙ ap Some c.in_ok-nothing_end.ensures)) c.in-Put.is
