-- Those of all places.
use Rattle.std.proofs.Common.{◌∙◌, arith, refl, sym, subst, [], ◌∷◌, map}
use Rattle.std.proofs.lemmas.List.{append-nil}
use Rattle.scq_collect.specs.Exports.{without_way, AreLaid, members_of, plain}
use Rattle.scq_collect.proofs.LaidLaws.{laid-codable}
use Rattle.scq_collect.proofs.SpanLaws.{all-taken}
use Rattle.scq_collect.proofs.ordering.spots_in_order.Goals as goal

pub returns : goal.returns
returns c =
    let members = members_of c.args.lists.now in
    let answers = map without_way members in
    let laid = subst (AreLaid answers) (sym c.as_slice.ensures.value) c.in_ok-blocks.ensures in
    let spots = c.take_spots.new.spots.items in
    let t = all-taken members (_ ∷ []) (plain spots ∷ []) (laid-codable answers c.in_ok-blocks.blocks.items c.in_ok-blocks.ensures)
    (refl, omega arith, refl) (c.in_ok-take_spots.ensures answers laid, tt) in
    record { all = t.0; merged = t.1; are = sym (append-nil (plain spots)) ∙ t.2 }
