use Rattle.std.proofs.Common.{◌≡◌, ◌-◌}
use Rattle.scq_band.specs.Exports.{opening_of, GoesOn, my_phase, front_bytes, IsToDraw, goes_to, least_of}
use Rattle.scq_band.proofs.enqueue.enqueue.Given as goal

abbrev pub invariant-draws : goal.invariant-draws
invariant-draws g l =
    (l.token.table_id ≡ l.fn.token.table_id) × (l.token.id ≡ l.fn.token.id) × (l.token.me.1 ≡ l.fn.token.me.1)
    × (l.token.me.0.known ≡ goes_to (my_phase l.token.me.0.known) l.fn.token.me.0.known)
    × IsToDraw l.fn.ring.number l.fn.index (front_bytes g.B.Buffer.contents l.fn.token.me.1) (my_phase l.token.me.0.known)
    × GoesOn l.words.key.setup (opening_of g.B.Buffer.contents l.words.key.given.value.items) l.fn.token.me.0 l.token.me.0

abbrev pub decreases-draws : goal.decreases-draws
decreases-draws g l = l.fn.ring.limit - least_of (my_phase l.token.me.0.known)
