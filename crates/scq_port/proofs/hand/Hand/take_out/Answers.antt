use Rattle.std.proofs.Common.{◌≡◌, sym, ◌∙◌, ap, arith}
use Rattle.std.specs.Prelude.{Option, Some, None, slice_get, slice_set}
use Rattle.std.proofs.lemmas.Option.{slice_get_read}
use Rattle.scq_port.specs.Exports.{Value}
use Rattle.scq_port.proofs.Lists.{set_same}
use Rattle.scq_port.proofs.hand.Hand.take_out.Goals as goal

pub returns-clause-none : goal.returns-clause-none
returns-clause-none c is =
    let slots = c.args.self.now.slots in
    let now = c.index_mut.result.now in
    let here : slice_get slots.items c.args.index ≡ Some now =
    slice_get_read slots.items slots.len c.args.index now slots.ok.0 (omega (arith, c.if-at-len.false)) c.index_mut.ensures.value in
    let none : now ≡ None = sym c.take.ensures.value ∙ is in (
      ap (λ (o : Option Value). slice_set slots.items c.args.index o) (c.take.ensures.after ∙ sym none) ∙ set_same slots.items c.args.index now here,
      λ h at. let both : Some now ≡ Some (Some h) = sym here ∙ at in cc,
    )

pub returns-clause-some : goal.returns-clause-some
returns-clause-some c h is =
    let slots = c.args.self.now.slots in
    let now = c.index_mut.result.now in
    let here : slice_get slots.items c.args.index ≡ Some now =
    slice_get_read slots.items slots.len c.args.index now slots.ok.0 (omega (arith, c.if-at-len.false)) c.index_mut.ensures.value in (
      here ∙ ap (λ (o : Option Value). Some o) (sym c.take.ensures.value ∙ is),
      ap (λ (o : Option Value). slice_set slots.items c.args.index o) c.take.ensures.after,
    )
