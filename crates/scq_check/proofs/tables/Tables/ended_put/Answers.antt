use Rattle.std.proofs.Common.{◌∙◌, Some, ap, refl}
use Rattle.scq_hist.proofs.NamesLemmas.{read}
use Rattle.scq_hist.proofs.EndedLemmas.{ends_put, no_end, no_put}
use Rattle.scq_check.proofs.EndedLemmas.{own_call}
use Rattle.scq_check.proofs.tables.Tables.ended_put.Goals as goal

pub returns-in_err-end : goal.returns-in_err-end
returns-in_err-end c = rw c.from_residual.ensures (no_end _ _ _ (read _ _ _ _ c.requires.within c.index-events-e.is refl) c.in_err-end.ensures)

pub returns-in-Put : goal.returns-in-Put
returns-in-Put c =
    ends_put _ _ _ _ _ _ _ _
    (own_call _ _ _ _ _ _ c.call_of-call.ensures (read _ _ _ _ c.requires.within c.index-events-e.is refl ∙ ap Some c.in_ok-end.ensures)) c.in-Put.is

pub returns-in-Get : goal.returns-in-Get
returns-in-Get c =
    no_put _ _ _ _ _ _ _
    (own_call _ _ _ _ _ _ c.call_of-call.ensures (read _ _ _ _ c.requires.within c.index-events-e.is refl ∙ ap Some c.in_ok-end.ensures)) c.in-Get.is
