use Rattle.std.proofs.Common.{◌≡◌, List, ◌∷◌, sym, ◌∙◌, ap, subst}
use Rattle.std.specs.Prelude.{Some, None, Option}
use Rattle.atomic_table.specs.Table.{rest}
use Rattle.scq_band.specs.Slots.{SlotStanding}
use Rattle.scq_band.specs.Exports.{known_me, Identity, with_buffer, IsAsGiven, standing_of, IsKept}
use Rattle.scq_band.specs.Standing.{Standing}
use Rattle.scq_band.proofs.Exchanging.{Brought, same_slot}
use Rattle.scq_band.proofs.LaidFirst.{held_there, one_band, came_first, front_slot, lent_first}
use Rattle.scq_band.proofs.band.Band.lift.Goals as goal
use Rattle.scq_band.proofs.band.Band.lift.Goals.{After-bring_to_front, After-lift_first}

-- the slot of the index stands first
front : (g : _) (c : After-bring_to_front g) → Brought g.B.Buffer.IsSameBuffer (known_me c.seat.inside.token.me) c.seat.inside.key.value.given.value.items
    c.bring_to_front.new.token.me.1 c.args.index (Some c.requires.laid.0)
front g c =
    let to = c.bring_to_front.ensures in
    came_first g.B.Buffer.IsSameBuffer c.seat.inside.token.me c.bring_to_front.new.token.me.1 c.seat.invariant c.seat.view_is to.2.slots to.2.first
    c.requires.laid.1

-- and its buffer is the one that is lifted
lifted : (g : _) (c : After-lift_first g) → (b : Brought g.B.Buffer.IsSameBuffer (known_me c.seat.inside.token.me)
    c.seat.inside.key.value.given.value.items c.bring_to_front.new.token.me.1 c.args.index (Some c.requires.laid.0))
    → b.slot.buffer ≡ Some c.lift_first.result
lifted g c b =
    ap (λ (s : SlotStanding g.row.B.Denot). s.buffer) (same_slot c.args.index b.slot (record { buffer = Some c.lift_first.result }) b.others _
    c.bring_to_front.new.token.me.1 b.is c.lift_first.ensures.buffer)

-- what is kept, and seen, of the seat without it
without : (g : _) (c : After-lift_first g) → IsKept g.B.Buffer.IsSameBuffer c.seat.inside.key.value (known_me c.lift_first.new.token.me)
    c.seat.inside.held.items c.seat.inside.numbers.items c.seat.inside.spent
    × (standing_of c.lift_first.new.token.table_id c.seat.inside.key.value c.lift_first.new.token.me
    ≡ record (c.args.seat.now) { hand = with_buffer c.args.index None c.args.seat.now.hand })
without g c =
    let to = c.bring_to_front.ensures in
    lent_first g.B.Buffer.IsSameBuffer c.seat.inside.token.me c.bring_to_front.new.token.me c.lift_first.new.token.me (record { buffer = None })
    c.seat.invariant c.seat.view_is to.0 c.lift_first.ensures.own.0 to.2.view to.2.slots to.2.first c.requires.laid.1
    (λ x is. absurd (cc)) c.lift_first.ensures.lifted

pub bring_to_front-requires : goal.bring_to_front-requires
bring_to_front-requires g c = held_there g.B.Buffer.IsSameBuffer c.args.index c.seat.inside.token.me c.seat.invariant c.seat.view_is c.requires.laid.1

pub lift_first-requires-clause-first : goal.lift_first-requires-clause-first
lift_first-requires-clause-first g c κs within =
    let s = front_slot g.B.Buffer.IsSameBuffer (front g (goal.at.lift_first-requires-clause-first g c).After-bring_to_front) in
    (c.requires.laid.0, s.1 ∙ ap (λ (o : Option g.row.B.Denot). (c.args.index, record { buffer = o }) ∷ rest c.bring_to_front.new.token.me.1) s.2)

pub invariant_of-seat : goal.invariant_of-seat
invariant_of-seat g c = (without g (goal.at.invariant_of-seat g c).After-lift_first).0

pub returns-clause-buffer : goal.returns-clause-buffer
returns-clause-buffer g c =
    let at = goal.at.returns-clause-buffer g c in
    let b = front g at.After-bring_to_front in
    c.requires.laid.1 ∙ ap (λ (o : Option g.row.B.Denot). Some o) (sym b.has ∙ lifted g at.After-lift_first b)

pub returns-clause-given : goal.returns-clause-given
returns-clause-given g c =
    let at = goal.at.returns-clause-given g c in
    let b = front g at.After-bring_to_front in
    subst (λ (bs : List g.row.B.Denot). IsAsGiven g.B.Buffer.IsSameBuffer bs c.args.index c.lift_first.result)
    (ap (λ (i : Identity g.row.B.Denot). i.given) (ap (λ (s : Standing g.row.B.Denot). s.band) c.seat.view_is ∙ c.requires.seat))
    (b.given_so c.lift_first.result (lifted g at.After-lift_first b))

pub returns-clause-lifted : goal.returns-clause-lifted
returns-clause-lifted g c = (without g (goal.at.returns-clause-lifted g c).After-lift_first).1

pub lift_first-requires-clause-own : goal.lift_first-requires-clause-own
lift_first-requires-clause-own g c κs within =
    c.bring_to_front.ensures.0 ∙ ap (λ (i : Identity g.row.B.Denot). i.table)
    (one_band c.seat.inside.key.value c.self.inside.table.shared.key c.seat.inside.token.me c.seat.view_is c.requires.seat c.self.view_is)
