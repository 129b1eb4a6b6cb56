use Rattle.std.proofs.Common.{◌≡◌, ◌-◌}
use Rattle.scq_band.specs.Exports.{opening_of, GoesOn, my_phase, to_draw, least_of}
use Rattle.scq_band.proofs.dequeue.dequeue.Given as goal

abbrev pub invariant-draws : goal.invariant-draws
invariant-draws g l =
    (l.token.table_id ≡ l.fn.token.table_id) × (l.token.id ≡ l.fn.token.id) × (l.token.me.1 ≡ l.fn.token.me.1)
    × (l.token.me.0.known ≡ to_draw l.fn.ring.number (least_of (my_phase l.token.me.0.known)) l.fn.token.me.0.known)
    × GoesOn l.words.key.setup (opening_of g.B.Buffer.contents l.words.key.given.value.items) l.fn.token.me.0 l.token.me.0

abbrev pub decreases-draws : goal.decreases-draws
decreases-draws g l = l.fn.ring.limit - least_of (my_phase l.token.me.0.known)
