use Rattle.std.proofs.Common.{◌≤◌, ap, sym, subst, ◌∙◌, List, length, map, Bor}
use Rattle.std.specs.Prelude.{flat_map}
use Rattle.std.proofs.lemmas.List.Elements.{All-map}
use Rattle.scq_collect.specs.declared.spans.Span.{Span}
use Rattle.scq_collect.specs.Exports.{PartAnswer, without_way, AreLaid, members_of, AreNext}
use Rattle.scq_collect.proofs.pieces.stretches_of_lists.Goals as goal

pub stretches_in_order-requires-clause-known : goal.stretches_in_order-requires-clause-known
stretches_in_order-requires-clause-known g c κs within =
    let members = members_of c.args.lists.now in
    let answers = map without_way members in (
      answers,
      subst (AreLaid answers) (sym c.as_slice-4.ensures.value) c.in_ok-blocks.ensures,
      All-map (λ (a : PartAnswer). a.topic ≤ length c.args.topics.now) without_way members c.requires.known,
    )

pub stretches_in_order-requires-clause-all : goal.stretches_in_order-requires-clause-all
stretches_in_order-requires-clause-all g c κs within =
    let flat : List (Bor (List Span)) → List Span = λ cuts. flat_map (λ cut. cut.now) cuts in
    subst (AreNext 0) (sym (ap flat c.as_slice-5.ensures.value ∙ c.in_ok-cuts.ensures ∙ c.as_slice-3.ensures.value)) c.in_ok-spans.ensures.spans

pub returns : goal.returns
returns g c =
    let members = members_of c.args.lists.now in
    c.stretches_in_order.ensures members (subst (AreLaid (map without_way members)) (sym c.as_slice-4.ensures.value) c.in_ok-blocks.ensures)
