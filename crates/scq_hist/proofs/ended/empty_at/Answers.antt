use Rattle.std.proofs.Common.{◌∙◌, Some, ap, refl}
use Rattle.scq_hist.proofs.NamesLemmas.{read}
use Rattle.scq_hist.proofs.EndedLemmas.{empty_there, no_empty_end, no_empty_call, no_empty_put, under_way_ends}
use Rattle.scq_hist.proofs.ended.empty_at.Goals as goal

pub returns-in_err-seat : goal.returns-in_err-seat
returns-in_err-seat c = rw c.from_residual.ensures (no_empty_end _ _ _ (read _ _ _ _ c.requires c.index-events-e.is refl) c.in_err-seat.ensures)

pub returns-in_err-call : goal.returns-in_err-call
returns-in_err-call c =
    rw c.from_residual-in_err-call.ensures
    (no_empty_call _ _ _ _ (read _ _ _ _ c.requires c.index-events-e.is refl ∙ ap Some c.in_ok-seat.ensures) c.in_err-call.ensures)

pub returns-in-Get : goal.returns-in-Get
returns-in-Get c =
    empty_there _ _ _ _ _ _
    (under_way_ends _ _ _ _ _ _ c.in_ok-call.ensures (read _ _ _ _ c.requires c.index-events-e.is refl ∙ ap Some c.in_ok-seat.ensures)) c.in-Get.is

pub returns-in-Put : goal.returns-in-Put
returns-in-Put c =
    no_empty_put _ _ _ _ _ _ _ _
    (under_way_ends _ _ _ _ _ _ c.in_ok-call.ensures (read _ _ _ _ c.requires c.index-events-e.is refl ∙ ap Some c.in_ok-seat.ensures)) c.in-Put.is
