use Rattle.std.proofs.Common.{◌≡◌, ◌≤◌, true, sym, ◌∙◌, ap, subst, refl, Some}
use Rattle.scq_word.specs.declared.setup.Setup.{Setup}
use Rattle.scq_band.specs.Exports.{known_me, spent_at, Identity, having_seen, seat_after_spent_put, IsRing, standing_of, IsKept}
use Rattle.scq_band.proofs.LaidFirst.{LaidFirst, keeps_none, laid_idle, laid_place, ring_there, held_there, turned_first, refused_first, laid_held, laid_fronts, laid_noted, laid_above, laid_kept, laid_put, laid_call}
use Rattle.scq_band.proofs.band.Band.enq.Goals as goal
use Rattle.scq_band.proofs.band.Band.enq.Goals.{After-bring_to_front, In-Err}

-- the slot of the index stands first, with its buffer
laid : (g : _) (c : After-bring_to_front g) → LaidFirst g.B.Buffer.IsSameBuffer c.seat.inside.key.value c.bring_to_front.new.token.table_id
    c.bring_to_front.new.token.me c.seat.inside.held.items c.seat.inside.numbers.items c.seat.inside.spent
    c.args.index c.requires.held.0 c.args.seat.now
laid g c =
    let to = c.bring_to_front.ensures in
    turned_first g.B.Buffer.IsSameBuffer c.seat.inside.token.me c.bring_to_front.new.token.me c.seat.invariant c.seat.view_is to.0 to.2.view to.2.slots
    to.2.first c.requires.held.1

-- what is kept, and seen, of the seat after a ticket at or past the limit
refused : (g : _) (c : In-Err g) → IsKept g.B.Buffer.IsSameBuffer c.seat.inside.key.value (known_me c.enqueue.new.token.me) c.seat.inside.held.items
    c.seat.inside.numbers.items (Some c.in-Err.ticket)
    × (standing_of c.enqueue.new.token.table_id c.seat.inside.key.value c.enqueue.new.token.me
    ≡ having_seen c.enqueue.new.token.me.0.seen (seat_after_spent_put c.args.ring c.in-Err.ticket c.args.seat.now))
refused g c =
    let to = c.bring_to_front.ensures in
    let its = c.in-Err.ensures.spent in
    refused_first g.B.Buffer.IsSameBuffer c.seat.inside.token.me c.bring_to_front.new.token.me c.enqueue.new.token.me c.args.ring c.in-Err.ticket
    c.seat.invariant c.seat.view_is (c.in-Err.ensures.own.0 ∙ to.0) to.2.view to.2.slots to.2.first c.requires.held.1
    (its.view ∙ ap (λ n. spent_at n c.in-Err.ticket true c.bring_to_front.new.token.me.0.known) c.ring.ensures.number) its.slots

pub bring_to_front-requires : goal.bring_to_front-requires
bring_to_front-requires g c = held_there g.B.Buffer.IsSameBuffer c.args.index c.seat.inside.token.me c.seat.invariant c.seat.view_is c.requires.held.1

pub enqueue-requires-clause-ring : goal.enqueue-requires-clause-ring
enqueue-requires-clause-ring g c κs within =
    subst (λ (s : Setup). IsRing s c.ring.result.now) (sym (ap (λ (i : Identity g.row.B.Denot). i.setup) c.self.view_is)) c.ring.ensures.ring

pub enqueue-requires-clause-alone : goal.enqueue-requires-clause-alone
enqueue-requires-clause-alone g c κs within = (laid g (goal.at.enqueue-requires-clause-alone g c).After-bring_to_front).kept.alone

pub enqueue-requires-clause-idle : goal.enqueue-requires-clause-idle
enqueue-requires-clause-idle g c κs within = laid_idle (laid g (goal.at.enqueue-requires-clause-idle g c).After-bring_to_front) c.in_default.is

pub returns-in-Ok-clause-kept : goal.returns-in-Ok-clause-kept
returns-in-Ok-clause-kept g c t is = keeps_none _ c.seat.inside.token.me c.seat.invariant c.seat.view_is c.in_default.is is

pub returns-in-Err-clause-kept : goal.returns-in-Err-clause-kept
returns-in-Err-clause-kept g c t is = keeps_none _ c.seat.inside.token.me c.seat.invariant c.seat.view_is c.in_default.is is

pub enqueue-requires-clause-held : goal.enqueue-requires-clause-held
enqueue-requires-clause-held g c κs within = laid_held (laid g (goal.at.enqueue-requires-clause-held g c).After-bring_to_front) c.self.inside.table.shared.key c.requires.seat c.self.view_is

pub enqueue-requires-clause-front : goal.enqueue-requires-clause-front
enqueue-requires-clause-front g c κs within =
    laid_fronts g.B.Buffer.contents (laid g (goal.at.enqueue-requires-clause-front g c).After-bring_to_front) c.self.inside.table.shared.key c.requires.seat c.self.view_is

pub let_go-requires-clause-low : goal.let_go-requires-clause-low
let_go-requires-clause-low g c =
    ring_there c.seat.inside.key.value c.seat.inside.token.me _ c.seat.view_is c.requires.seat c.seat.invariant.rings c.requires.ring

pub let_go-requires-clause-there : goal.let_go-requires-clause-there
let_go-requires-clause-there g c = laid_noted (laid g (goal.at.let_go-requires-clause-there g c).After-bring_to_front)

pub let_go-requires-clause-order : goal.let_go-requires-clause-order
let_go-requires-clause-order g c = (c.seat.invariant.small c.args.ring).1

pub let_go-requires-clause-above : goal.let_go-requires-clause-above
let_go-requires-clause-above g c =
    laid_above g.B.Buffer.contents (laid g (goal.at.let_go-requires-clause-above g c).After-bring_to_front) c.enqueue.new.token.me c.in-Ok.ensures.put c.ring.ensures.number
    (ring_there c.seat.inside.key.value c.seat.inside.token.me _ c.seat.view_is c.requires.seat c.seat.invariant.rings c.requires.ring)

pub invariant_of-seat : goal.invariant_of-seat
invariant_of-seat g c =
    laid_kept g.B.Buffer.contents (laid g (goal.at.invariant_of-seat g c).After-bring_to_front) c.enqueue.new.token.me c.in-Ok.ensures.put c.ring.ensures.number
    c.let_go.ensures.held c.let_go.ensures.numbers

pub invariant_of-seat-in-Err : goal.invariant_of-seat-in-Err
invariant_of-seat-in-Err g c = (refused g (goal.at.invariant_of-seat-in-Err g c).In-Err).0

pub returns-in-Ok-clause-put : goal.returns-in-Ok-clause-put
returns-in-Ok-clause-put g c =
    let its = laid g (goal.at.returns-in-Ok-clause-put g c).After-bring_to_front in
    let place = laid_place g.B.Buffer.contents its c.self.inside.table.shared.key c.enqueue.new.token.me c.in-Ok.ensures.put c.ring.ensures.number
    (ring_there c.seat.inside.key.value c.seat.inside.token.me _ c.seat.view_is c.requires.seat c.seat.invariant.rings c.requires.ring) c.self.view_is in
    record {
      below = place.0;
      above = place.1;
      seat = laid_put g.B.Buffer.contents its c.enqueue.new.token.me c.in-Ok.ensures.put c.ring.ensures.number c.in-Ok.ensures.own.0;
    }

pub returns-in-Err-clause-spent : goal.returns-in-Err-clause-spent
returns-in-Err-clause-spent g c fresh =
    let setup = ap (λ (i : Identity g.row.B.Denot). i.setup) c.self.view_is in
    ((refused g (goal.at.returns-in-Err-clause-spent g c).In-Err).1, subst (λ (s : Setup). s.limit ≤ c.in-Err.ticket) setup c.in-Err.ensures.spent.past)

pub returns-in-Ok-clause-run : goal.returns-in-Ok-clause-run
returns-in-Ok-clause-run g c fresh =
    laid_call g.B.Buffer.contents (laid g (goal.at.returns-in-Ok-clause-run g c).After-bring_to_front) c.enqueue.new.token.table_id c.self.inside.table.shared.key
    c.enqueue.new.token.me c.requires.seat c.self.view_is c.in-Ok.ensures.went c.in-Ok.ensures.put.view refl refl

pub returns-in-Err-clause-run : goal.returns-in-Err-clause-run
returns-in-Err-clause-run g c fresh =
    laid_call g.B.Buffer.contents (laid g (goal.at.returns-in-Err-clause-run g c).After-bring_to_front) c.enqueue.new.token.table_id c.self.inside.table.shared.key
    c.enqueue.new.token.me c.requires.seat c.self.view_is c.in-Err.ensures.went c.in-Err.ensures.spent.view refl refl
