use Rattle.std.proofs.Common.{◌≡◌, ◌≤◌, ℕ, List, refl, ◌∷◌, sym, ◌∙◌, ap, subst}
use Rattle.std.specs.Prelude.{Some}
use Rattle.atomic_table.specs.Table.{Me, rest}
use Rattle.scq_word.specs.declared.setup.Setup.{Setup}
use Rattle.scq_band.specs.Slots.{SlotStanding}
use Rattle.scq_band.specs.Exports.{opening_of, Sight, Went, known_me, front_index, HasSpentPut, Identity, with_buffer, IsAsGiven}
use Rattle.scq_band.specs.Exports.{having_seen, seat_after_spent_put, IsRing, standing_of, IsKept}
use Rattle.scq_band.proofs.Exchanging.{same_slot}
use Rattle.scq_band.proofs.Putting.{put_laid}
use Rattle.scq_band.proofs.LaidFirst.{LaidFirst, keeps_none, laid_idle, laid_place, ring_there, held_there, one_band, came_first, front_slot, laid_first, refused_laid, laid_held, laid_fronts, laid_noted, laid_above, laid_kept, laid_put, laid_call}
use Rattle.scq_band.proofs.band.Band.put.Goals as goal
use Rattle.scq_band.proofs.band.Band.put.Goals.{After-lay_first, In-Err, After-lift_first-buffer}

-- the slot of the index stands first, and the buffer is laid in it
laid : (g : _) (c : After-lay_first g) → LaidFirst g.B.Buffer.IsSameBuffer c.seat.inside.key.value c.lay_first.new.token.table_id c.lay_first.new.token.me
    c.seat.inside.held.items c.seat.inside.numbers.items c.seat.inside.spent c.args.index c.args.buffer
    (record (c.args.seat.now) { hand = with_buffer c.args.index (Some c.args.buffer) c.args.seat.now.hand })
laid g c =
    let to = c.bring_to_front.ensures in
    let given = subst (λ (b : Identity g.row.B.Denot). IsAsGiven g.B.Buffer.IsSameBuffer b.given c.args.index c.args.buffer) (sym c.requires.seat)
    c.requires.given in
    laid_first g.B.Buffer.IsSameBuffer c.seat.inside.token.me c.bring_to_front.new.token.me c.lay_first.new.token.me c.seat.invariant c.seat.view_is to.0
    c.lay_first.ensures.own.0 to.2.view to.2.slots to.2.first c.requires.lifted given c.lay_first.ensures.laid

-- where the put is refused, the slots are as they were when the buffer was laid
still : (g : _) (c : In-Err g) → c.enqueue.new.token.me.1
    ≡ (c.args.index, record { buffer = Some c.args.buffer }) ∷ rest c.bring_to_front.new.token.me.1
still g c = c.in-Err.ensures.spent.slots ∙ ap (λ (m : Me (SlotStanding g.row.B.Denot) Sight). m.1) c.lay_first.ensures.laid

-- what is kept, and seen, of the seat then
refused : (g : _) (c : After-lift_first-buffer g) → IsKept g.B.Buffer.IsSameBuffer c.seat.inside.key.value (known_me c.lift_first-buffer.new.token.me)
    c.seat.inside.held.items c.seat.inside.numbers.items (Some c.in-Err.ticket)
    × (standing_of c.lift_first-buffer.new.token.table_id c.seat.inside.key.value c.lift_first-buffer.new.token.me
    ≡ having_seen c.lift_first-buffer.new.token.me.0.seen (seat_after_spent_put c.args.ring c.in-Err.ticket c.args.seat.now))
refused g c =
    let to = c.bring_to_front.ensures in
    let own = c.lift_first-buffer.ensures.own.0 ∙ c.in-Err.ensures.own.0 ∙ c.lay_first.ensures.own.0 ∙ to.0 in
    refused_laid g.B.Buffer.IsSameBuffer c.seat.inside.token.me c.bring_to_front.new.token.me c.lay_first.new.token.me c.enqueue.new.token.me
    c.lift_first-buffer.new.token.me c.self.inside.table.shared.key.setup c.args.ring c.in-Err.ticket c.seat.invariant c.seat.view_is own to.2.view
    to.2.slots to.2.first c.requires.lifted c.lay_first.ensures.laid
    (subst (λ n. HasSpentPut c.self.inside.table.shared.key.setup n c.in-Err.ticket (known_me c.lay_first.new.token.me) (known_me c.enqueue.new.token.me)) c.ring.ensures.number
    c.in-Err.ensures.spent)
    c.lift_first-buffer.ensures.lifted

pub bring_to_front-requires : goal.bring_to_front-requires
bring_to_front-requires g c = held_there g.B.Buffer.IsSameBuffer c.args.index c.seat.inside.token.me c.seat.invariant c.seat.view_is c.requires.lifted

pub lay_first-requires-clause-own : goal.lay_first-requires-clause-own
lay_first-requires-clause-own g c κs within =
    c.bring_to_front.ensures.0 ∙ ap (λ (i : Identity g.row.B.Denot). i.table)
    (one_band c.seat.inside.key.value c.self.inside.table.shared.key c.seat.inside.token.me c.seat.view_is c.requires.seat c.self.view_is)

pub lay_first-requires-clause-first : goal.lay_first-requires-clause-first
lay_first-requires-clause-first g c κs within =
    let to = c.bring_to_front.ensures in
    front_slot _ (came_first _ c.seat.inside.token.me _ c.seat.invariant c.seat.view_is to.2.slots to.2.first c.requires.lifted)

pub enqueue-requires-clause-ring : goal.enqueue-requires-clause-ring
enqueue-requires-clause-ring g c κs within =
    subst (λ (s : Setup). IsRing s c.ring.result.now) (sym (ap (λ (i : Identity g.row.B.Denot). i.setup) c.self.view_is)) c.ring.ensures.ring

pub enqueue-requires-clause-alone : goal.enqueue-requires-clause-alone
enqueue-requires-clause-alone g c κs within = (laid g (goal.at.enqueue-requires-clause-alone g c).After-lay_first).kept.alone

pub enqueue-requires-clause-idle : goal.enqueue-requires-clause-idle
enqueue-requires-clause-idle g c κs within = laid_idle (laid g (goal.at.enqueue-requires-clause-idle g c).After-lay_first) c.in_default.is

pub returns-in-Ok-clause-kept : goal.returns-in-Ok-clause-kept
returns-in-Ok-clause-kept g c t is = keeps_none _ c.seat.inside.token.me c.seat.invariant c.seat.view_is c.in_default.is is

pub returns-in-Err-clause-kept : goal.returns-in-Err-clause-kept
returns-in-Err-clause-kept g c t is = keeps_none _ c.seat.inside.token.me c.seat.invariant c.seat.view_is c.in_default.is is

pub enqueue-requires-clause-held : goal.enqueue-requires-clause-held
enqueue-requires-clause-held g c κs within = laid_held (laid g (goal.at.enqueue-requires-clause-held g c).After-lay_first) c.self.inside.table.shared.key c.requires.seat c.self.view_is

pub enqueue-requires-clause-first : goal.enqueue-requires-clause-first
enqueue-requires-clause-first g c κs within = ap (λ (m : Me (SlotStanding g.row.B.Denot) Sight). front_index m.1) c.lay_first.ensures.laid

pub enqueue-requires-clause-front : goal.enqueue-requires-clause-front
enqueue-requires-clause-front g c κs within =
    laid_fronts g.B.Buffer.contents (laid g (goal.at.enqueue-requires-clause-front g c).After-lay_first) c.self.inside.table.shared.key c.requires.seat c.self.view_is

pub lift_first-buffer-requires-clause-first : goal.lift_first-buffer-requires-clause-first
lift_first-buffer-requires-clause-first g c κs within =
    let is = still g (goal.at.lift_first-buffer-requires-clause-first g c).In-Err in
    (c.args.buffer, is ∙ ap (λ (os : List (ℕ × SlotStanding g.row.B.Denot)). (c.args.index, record { buffer = Some c.args.buffer }) ∷ os) (sym (ap rest is)))

pub let_go-requires-clause-low : goal.let_go-requires-clause-low
let_go-requires-clause-low g c =
    ring_there c.seat.inside.key.value c.seat.inside.token.me _ c.seat.view_is c.requires.seat c.seat.invariant.rings c.requires.ring

pub let_go-requires-clause-there : goal.let_go-requires-clause-there
let_go-requires-clause-there g c = laid_noted (laid g (goal.at.let_go-requires-clause-there g c).After-lay_first)

pub let_go-requires-clause-order : goal.let_go-requires-clause-order
let_go-requires-clause-order g c = (c.seat.invariant.small c.args.ring).1

pub let_go-requires-clause-above : goal.let_go-requires-clause-above
let_go-requires-clause-above g c =
    laid_above g.B.Buffer.contents (laid g (goal.at.let_go-requires-clause-above g c).After-lay_first) c.enqueue.new.token.me c.in-Ok.ensures.put c.ring.ensures.number
    (ring_there c.seat.inside.key.value c.seat.inside.token.me _ c.seat.view_is c.requires.seat c.seat.invariant.rings c.requires.ring)

pub invariant_of-seat : goal.invariant_of-seat
invariant_of-seat g c =
    laid_kept g.B.Buffer.contents (laid g (goal.at.invariant_of-seat g c).After-lay_first) c.enqueue.new.token.me c.in-Ok.ensures.put c.ring.ensures.number
    c.let_go.ensures.held c.let_go.ensures.numbers

pub invariant_of-seat-in-Err : goal.invariant_of-seat-in-Err
invariant_of-seat-in-Err g c = (refused g (goal.at.invariant_of-seat-in-Err g c).After-lift_first-buffer).0

pub returns-in-Ok-clause-put : goal.returns-in-Ok-clause-put
returns-in-Ok-clause-put g c =
    let its = laid g (goal.at.returns-in-Ok-clause-put g c).After-lay_first in
    let place = laid_place g.B.Buffer.contents its c.self.inside.table.shared.key c.enqueue.new.token.me c.in-Ok.ensures.put c.ring.ensures.number
    (ring_there c.seat.inside.key.value c.seat.inside.token.me _ c.seat.view_is c.requires.seat c.seat.invariant.rings c.requires.ring) c.self.view_is in
    record {
      below = place.0;
      above = place.1;
      seat = laid_put g.B.Buffer.contents its c.enqueue.new.token.me c.in-Ok.ensures.put c.ring.ensures.number c.in-Ok.ensures.own.0
          ∙ put_laid g.B.Buffer.contents c.enqueue.new.token.me.0.seen c.args.seat.now c.args.ring c.args.index c.in-Ok.place c.args.buffer c.requires.lifted;
    }

pub returns-in-Err-clause-back : goal.returns-in-Err-clause-back
returns-in-Err-clause-back g c =
    let slot = same_slot c.args.index (record { buffer = Some c.lift_first-buffer.result }) (record { buffer = Some c.args.buffer }) _ _
    c.enqueue.new.token.me.1 c.lift_first-buffer.ensures.buffer (still g (goal.at.returns-in-Err-clause-back g c).In-Err) in
    let both : Some c.lift_first-buffer.result ≡ Some c.args.buffer = ap (λ (s : SlotStanding g.row.B.Denot). s.buffer) slot in
    cc

pub returns-in-Err-clause-spent : goal.returns-in-Err-clause-spent
returns-in-Err-clause-spent g c fresh = (
  (refused g (goal.at.returns-in-Err-clause-spent g c).After-lift_first-buffer).1,
  subst (λ (s : Setup). s.limit ≤ c.in-Err.ticket) (ap (λ (i : Identity g.row.B.Denot). i.setup) c.self.view_is) c.in-Err.ensures.spent.past,
)

pub returns-in-Ok-clause-run : goal.returns-in-Ok-clause-run
returns-in-Ok-clause-run g c fresh =
    laid_call g.B.Buffer.contents (laid g (goal.at.returns-in-Ok-clause-run g c).After-lay_first) c.enqueue.new.token.table_id c.self.inside.table.shared.key
    c.enqueue.new.token.me c.requires.seat c.self.view_is c.in-Ok.ensures.went c.in-Ok.ensures.put.view refl refl

pub returns-in-Err-clause-run : goal.returns-in-Err-clause-run
returns-in-Err-clause-run g c fresh =
    let k = c.self.inside.table.shared.key in
    let same = ap (λ (m : Me (SlotStanding g.row.B.Denot) Sight). m.0) c.lift_first-buffer.ensures.lifted in
    let view = ap (λ (v : Sight). v.known) same ∙ c.in-Err.ensures.spent.view in
    laid_call g.B.Buffer.contents (laid g (goal.at.returns-in-Err-clause-run g c).After-lay_first)
    c.lift_first-buffer.new.token.table_id k c.lift_first-buffer.new.token.me
    c.requires.seat c.self.view_is
    (subst (λ (v : Sight). Went k.setup (opening_of g.B.Buffer.contents k.given.value.items) c.lay_first.new.token.me.0 v) (sym same)
    c.in-Err.ensures.went) view refl refl
