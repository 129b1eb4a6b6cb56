use Rattle.std.proofs.Common.{refl, sym, subst}
use Rattle.scq_hist.proofs.UnderWay.{started}
use Rattle.scq_check.specs.Exports.{ArePlacesOf}
use Rattle.scq_check.specs.declared.full.Places.{Places}
use Rattle.scq_check.proofs.FullLemmas.{full_since, refused_decides, done_decides, none_decides}
use Rattle.scq_check.proofs.full.keeps_room_at.Goals as goal

pub returns-in-None : goal.returns-in-None
returns-in-None c = (λ t. none_decides c.args.room c.args.opening.now _ _ c.in-None.ensures, λ keeps. refl)

pub returns-then-put : goal.returns-then-put
returns-then-put c =
    let ends = c.in-Some.ensures in
    refused_decides c.args.room c.args.opening.now _ _ _ _ ends c.if-put.true
    (full_since _ _ _ _ _ _ c.get-places.result _ (started _ _ _ _ ends.call.under_way_till).before
    (subst (λ (p : Places). ArePlacesOf c.args.room c.args.opening.now c.args.events.now c.in-Some.put.queue c.args.e p) (sym c.get-places.ensures)
    (c.requires.places.each c.in-Some.put.queue)) c.was_used_up.ensures)

pub returns-else-put : goal.returns-else-put
returns-else-put c =
    let ends = c.in-Some.ensures in
    done_decides c.args.room c.args.opening.now _ _ _ c.get-places.result _ ends c.if-put.false
    (subst (λ (p : Places). ArePlacesOf c.args.room c.args.opening.now c.args.events.now c.in-Some.put.queue c.args.e p) (sym c.get-places.ensures)
    (c.requires.places.each c.in-Some.put.queue)) c.has_place.ensures
