use Rattle.std.proofs.Common.{◌≡◌, ◌+◌, ◌-◌, ◌≤◌, All}
use Rattle.std.specs.Prelude.{vec_len, vec_capacity, reverse}
use Rattle.scq_park.specs.Exports.{deeds, first_posts, ParkerDeeds, parkers_of}
use Rattle.scq_park.proofs.Rows.{links_from}
use Rattle.scq_park.proofs.making.stands_of.Given as goal

abbrev pub invariant-loop-sleeper : goal.invariant-loop-sleeper
invariant-loop-sleeper l =
    (parkers_of l.wakers.items ≡ parkers_of l.fn.wakers.items)
    × All (λ (w : ParkerDeeds). w.deeds ≡ deeds (8191 - vec_len l.stands) 0 0) l.wakers.items
    × (l.stands.items ≡ first_posts (parkers_of l.fn.wakers.items) (vec_len l.stands))
    × (reverse l.sleepers.items ≡ links_from (vec_len l.stands) l.fn.wakers.items)
    × (vec_len l.stands + vec_len l.sleepers ≡ vec_len l.fn.wakers)
    × (vec_len l.stands + vec_len l.sleepers ≤ vec_capacity l.stands)

abbrev pub decreases-loop-sleeper : goal.decreases-loop-sleeper
decreases-loop-sleeper l = vec_len l.sleepers
