use Rattle.std.proofs.Common.{◌≡◌, map, All}
use Rattle.std.specs.Prelude.{vec_len, vec_capacity}
use Rattle.scq_park.specs.Exports.{deeds, ParkerDeeds, first_link}
use Rattle.scq_park.proofs.making.pairs.Given as goal

abbrev pub invariant-loop : goal.invariant-loop
invariant-loop l =
    (vec_len l.wakers ≡ l.counter) × All (λ (w : ParkerDeeds). w.deeds ≡ deeds 8191 0 0) l.wakers.items × (l.sleepers.items ≡ map first_link l.wakers.items)
    × (vec_capacity l.wakers ≡ vec_capacity l.initial.wakers) × (vec_capacity l.sleepers ≡ vec_capacity l.initial.sleepers)
