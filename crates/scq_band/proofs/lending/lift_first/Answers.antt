use Rattle.std.proofs.Common.{◌∷◌, sym, ◌∙◌, ap}
use Rattle.std.specs.Prelude.{Some}
use Rattle.atomic_table.specs.Table.{rest}
use Rattle.scq_band.specs.Slots.{SlotStanding}
use Rattle.scq_band.proofs.Exchanging.{same_slot}
use Rattle.scq_band.proofs.lending.lift_first.Goals as goal

pub lift-requires-after_bounds : goal.lift-requires-after_bounds
lift-requires-after_bounds g c κs within =
    let first = c.requires.first in
    let ms = c.args.token.now.me.1 in
    let slot = same_slot c.args.index (record { buffer = Some first.0 }) c.exchange-slot.result (rest ms) _ ms first.1 c.exchange-slot.ensures.2 in
    (first.0, ap (λ (s : SlotStanding g.row.B.Denot). s.buffer) (sym slot))

pub returns-clause-buffer : goal.returns-clause-buffer
returns-clause-buffer g c =
    let ms = c.args.token.now.me.1 in
    c.exchange-slot.ensures.2
    ∙ ap (λ (o : SlotStanding g.row.B.Denot). (c.args.index, o) ∷ rest ms) c.lift.ensures
