use Rattle.std.proofs.Common.{List, length, take, refl, sym, ◌∙◌, ap, subst}
use Rattle.scq_band.specs.declared.numbers.Numbers.{Numbers}
use Rattle.scq_band.specs.Exports.{raised_by, both_of, both_seen, NoteStanding, AreSmall, standing_of, note_with, note_sight_with, seen_in, known_me}
use Rattle.scq_band.specs.Exports.{both_sight}
use Rattle.scq_band.specs.Standing.{Standing}
use Rattle.scq_band.proofs.Views.{joined_length}
use Rattle.scq_band.proofs.Keeping.{kept_still}
use Rattle.scq_band.proofs.Joining.{small_joined, take_length}
use Rattle.scq_band.proofs.band.Band.learn.Goals as goal

pub slice_bounds-numbers-end : goal.slice_bounds-numbers-end
slice_bounds-numbers-end g c = c.note.invariant.few

pub slice_bounds-join_all-end : goal.slice_bounds-join_all-end
slice_bounds-join_all-end g c = take_length c.note.inside.rings c.note.inside.numbers c.note.invariant.few

pub invariant_of-seat : goal.invariant_of-seat
invariant_of-seat g c =
    let key = c.seat.inside.key.value in
    let me = known_me c.seat.inside.token.me in
    let theirs = take c.note.inside.rings c.note.inside.numbers in
    let note = note_sight_with (seen_in c.note.inside.badge.views) theirs in
    let mine = c.seat.inside.numbers.items in
    let new = c.join_all.ensures.joined in
    kept_still g.B.Buffer.IsSameBuffer key (known_me c.learn.new.token.me) me.0 (both_of me.0 (note_with theirs)) me.1 c.seat.inside.held.items mine
    c.join_all.new.numbers.items _ _ c.seat.invariant (record { seats = c.seat.invariant.alone.seats; out = c.seat.invariant.alone.out })
    c.seat.invariant.idle refl (new ∙ ap (λ (ns : List Numbers). raised_by ns theirs) c.seat.invariant.numbers)
    (ap length new ∙ joined_length mine theirs)
    (subst AreSmall (sym new) (small_joined mine theirs c.seat.invariant.small c.note.invariant.small)) c.seat.invariant.spent
    (ap known_me (c.learn.ensures.learned note c.note.invariant.is))

pub returns : goal.returns
returns g c =
    let key = c.seat.inside.key.value in
    let table = c.seat.inside.token.table_id in
    let me = c.seat.inside.token.me in
    let theirs = take c.note.inside.rings c.note.inside.numbers in
    let note = note_sight_with (seen_in c.note.inside.badge.views) theirs in
    let raised : Standing g.row.B.Denot → Standing g.row.B.Denot =
    λ s. record s { numbers = raised_by s.numbers theirs; seen = both_seen s.seen note.seen } in
    ap (standing_of c.learn.new.token.table_id key) (c.learn.ensures.learned note c.note.invariant.is)
    ∙ ap (λ t. standing_of t key (both_sight me.0 note, me.1)) c.learn.ensures.own.0
    ∙ ap raised c.seat.view_is
    ∙ ap (λ (n : NoteStanding). record c.args.seat.now { numbers = raised_by c.args.seat.now.numbers n.numbers; seen = both_seen c.args.seat.now.seen n.seen })
    c.note.view_is
