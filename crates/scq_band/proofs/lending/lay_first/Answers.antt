use Rattle.std.proofs.Common.{sym, ◌∙◌, ap}
use Rattle.atomic_table.specs.Table.{rest}
use Rattle.scq_band.specs.Slots.{SlotStanding}
use Rattle.scq_band.proofs.Exchanging.{same_slot}
use Rattle.scq_band.proofs.lending.lay_first.Goals as goal

pub end-requires-after_bounds : goal.end-requires-after_bounds
end-requires-after_bounds g c κs within =
    let first = c.requires.first in
    let ms = c.args.token.now.me.1 in
    let slot = same_slot c.args.index first.0 c.exchange-hole.result (rest ms) _ ms first.1 c.exchange-hole.ensures.2 in
    ap (λ (s : SlotStanding g.row.B.Denot). s.buffer) (sym slot) ∙ first.2
