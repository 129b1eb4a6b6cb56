use Rattle.std.proofs.Common.{◌≡◌, ◌-◌, ◌^◌}
use Rattle.scq_core.specs.declared.phase.Phase.TheVariants.{AtD7}
use Rattle.scq_band.specs.Exports.{opening_of, GoesOn, goes_to}
use Rattle.scq_band.proofs.dequeue.catch_up.Given as goal

abbrev pub invariant-tries : goal.invariant-tries
invariant-tries g l =
    (l.token.table_id ≡ l.fn.token.table_id) × (l.token.id ≡ l.fn.token.id) × (l.token.me.1 ≡ l.fn.token.me.1)
    × (l.token.me.0.known ≡ goes_to (AtD7 l.fn.ring.number l.fn.ticket l.from l.to) l.fn.token.me.0.known)
    × GoesOn l.words.key.setup (opening_of g.B.Buffer.contents l.words.key.given.value.items) l.fn.token.me.0 l.token.me.0

abbrev pub decreases-tries : goal.decreases-tries
decreases-tries g l = 2 ^ 64 - l.from
