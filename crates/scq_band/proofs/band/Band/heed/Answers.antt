use Rattle.std.proofs.Common.{sym, ◌∙◌, ap, subst}
use Rattle.atomic_table.specs.Table.{Me}
use Rattle.scq_band.specs.Slots.{SlotStanding}
use Rattle.scq_band.specs.Known.{Known}
use Rattle.scq_band.specs.Exports.{both_seen, MarkStanding, having_seen, IsKept, standing_of, standing_from, seen_in, known_me, both_sight, mark_with}
use Rattle.scq_band.specs.Standing.{Standing}
use Rattle.scq_band.proofs.Joining.{both_nobody}
use Rattle.scq_band.proofs.band.Band.heed.Goals as goal

pub invariant_of-seat : goal.invariant_of-seat
invariant_of-seat g c =
    let key = c.seat.inside.key.value in
    let me = c.seat.inside.token.me in
    let v = mark_with (seen_in c.mark.inside.badge.views) in
    let now = ap known_me (c.learn.ensures.learned v c.mark.invariant.is) ∙ ap (λ (u : Known). (u, me.1)) (both_nobody me.0.known) in
    subst (λ (m : Me (SlotStanding g.row.B.Denot) Known). IsKept g.B.Buffer.IsSameBuffer key m c.seat.inside.held.items
    c.seat.inside.numbers.items c.seat.inside.spent) (sym now) c.seat.invariant

pub returns : goal.returns
returns g c =
    let key = c.seat.inside.key.value in
    let table = c.seat.inside.token.table_id in
    let me = c.seat.inside.token.me in
    let v = mark_with (seen_in c.mark.inside.badge.views) in
    ap (standing_of c.learn.new.token.table_id key) (c.learn.ensures.learned v c.mark.invariant.is)
    ∙ ap (λ t. standing_of t key (both_sight me.0 v, me.1)) c.learn.ensures.own.0
    ∙ ap (λ (u : Known). standing_from (both_seen me.0.seen v.seen) table key (u, me.1)) (both_nobody me.0.known)
    ∙ ap (λ (s : Standing g.row.B.Denot). having_seen (both_seen s.seen v.seen) s) c.seat.view_is
    ∙ ap (λ (m : MarkStanding). having_seen (both_seen c.args.seat.now.seen m.seen) c.args.seat.now) c.mark.view_is
