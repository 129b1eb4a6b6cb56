use Rattle.std.proofs.Common.{◌≡◌, map}
use Rattle.scq_rest.specs.Exports.{HasBegun, given_to, here, HasWork, IsUntouched}
use Rattle.scq_rest.proofs.PlaceLemmas.{Replaced, sum_from}
use Rattle.scq_rest.proofs.places.produce_all.Given as goal

abbrev pub invariant-places : goal.invariant-places
invariant-places g l =
    Replaced (HasWork IsUntouched l.queue l.job l.crew g.S.Source) (HasWork HasBegun l.queue l.job l.crew g.S.Source) given_to
    (map given_to l.fn.places) l.places l.place-index
    × (l.awaited ≡ sum_from here l.place-index l.places)
