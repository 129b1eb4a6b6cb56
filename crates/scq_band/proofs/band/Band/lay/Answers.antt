use Rattle.std.proofs.Common.{sym, ◌∙◌, ap, subst}
use Rattle.std.specs.Prelude.{Some}
use Rattle.scq_band.specs.Exports.{Identity, with_buffer, IsAsGiven}
use Rattle.scq_band.proofs.LaidFirst.{LaidFirst, held_there, one_band, came_first, front_slot, laid_first}
use Rattle.scq_band.proofs.band.Band.lay.Goals as goal
use Rattle.scq_band.proofs.band.Band.lay.Goals.{After-lay_first}

-- the slot of the index stands first, and the buffer is laid in it
laid : (g : _) (c : After-lay_first g) → LaidFirst g.B.Buffer.IsSameBuffer c.seat.inside.key.value c.lay_first.new.token.table_id c.lay_first.new.token.me
    c.seat.inside.held.items c.seat.inside.numbers.items c.seat.inside.spent c.args.index c.args.buffer
    (record (c.args.seat.now) { hand = with_buffer c.args.index (Some c.args.buffer) c.args.seat.now.hand })
laid g c =
    let to = c.bring_to_front.ensures in
    laid_first g.B.Buffer.IsSameBuffer c.seat.inside.token.me c.bring_to_front.new.token.me c.lay_first.new.token.me c.seat.invariant c.seat.view_is to.0
    c.lay_first.ensures.own.0 to.2.view to.2.slots to.2.first c.requires.lifted
    (subst (λ (b : Identity g.row.B.Denot). IsAsGiven g.B.Buffer.IsSameBuffer b.given c.args.index c.args.buffer) (sym c.requires.seat) c.requires.given)
    c.lay_first.ensures.laid

pub lay_first-requires-clause-first : goal.lay_first-requires-clause-first
lay_first-requires-clause-first g c κs within =
    let to = c.bring_to_front.ensures in
    front_slot _ (came_first _ c.seat.inside.token.me _ c.seat.invariant c.seat.view_is to.2.slots to.2.first c.requires.lifted)

pub invariant_of-seat : goal.invariant_of-seat
invariant_of-seat g c = (laid g (goal.at.invariant_of-seat g c).After-lay_first).kept

pub returns : goal.returns
returns g c = record { laid = (laid g (goal.at.returns g c).After-lay_first).stands }

pub bring_to_front-requires : goal.bring_to_front-requires
bring_to_front-requires g c = held_there g.B.Buffer.IsSameBuffer c.args.index c.seat.inside.token.me c.seat.invariant c.seat.view_is c.requires.lifted

pub lay_first-requires-clause-own : goal.lay_first-requires-clause-own
lay_first-requires-clause-own g c κs within =
    c.bring_to_front.ensures.0 ∙ ap (λ (i : Identity g.row.B.Denot). i.table)
    (one_band c.seat.inside.key.value c.self.inside.table.shared.key c.seat.inside.token.me c.seat.view_is c.requires.seat c.self.view_is)
