use Rattle.std.proofs.Common.{◌∙◌, Some, ap, refl}
use Rattle.scq_hist.proofs.NamesLemmas.{read}
use Rattle.scq_hist.proofs.EndedLemmas.{ends_put, no_end, no_call, no_put, under_way_ends}
use Rattle.scq_hist.proofs.ended.ended_put.Goals as goal

pub returns-in_err-end : goal.returns-in_err-end
returns-in_err-end c = rw c.from_residual.ensures (no_end _ _ _ (read _ _ _ _ c.requires c.index-events-e.is refl) c.in_err-end.ensures)

pub returns-in_err-call : goal.returns-in_err-call
returns-in_err-call c =
    rw c.from_residual-in_err-call.ensures
    (no_call _ _ _ _ (read _ _ _ _ c.requires c.index-events-e.is refl ∙ ap Some c.in_ok-end.ensures) c.in_err-call.ensures)

pub returns-in-Put : goal.returns-in-Put
returns-in-Put c =
    ends_put _ _ _ _ _ _ _ _
    (under_way_ends _ _ _ _ _ _ c.in_ok-call.ensures (read _ _ _ _ c.requires c.index-events-e.is refl ∙ ap Some c.in_ok-end.ensures)) c.in-Put.is

pub returns-in-Get : goal.returns-in-Get
returns-in-Get c =
    no_put _ _ _ _ _ _ _
    (under_way_ends _ _ _ _ _ _ c.in_ok-call.ensures (read _ _ _ _ c.requires c.index-events-e.is refl ∙ ap Some c.in_ok-end.ensures)) c.in-Get.is
