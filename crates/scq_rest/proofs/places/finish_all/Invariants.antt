use Rattle.std.proofs.Common.{map}
use Rattle.scq_rest.specs.Exports.{HasBegun, HasDone, given_to, HasWork}
use Rattle.scq_rest.proofs.PlaceLemmas.{Replaced}
use Rattle.scq_rest.proofs.places.finish_all.Given as goal

abbrev pub invariant-places : goal.invariant-places
invariant-places g l =
    Replaced (HasWork HasBegun l.queue l.job l.crew g.S.Source) (HasWork HasDone l.queue l.job l.crew g.S.Source) given_to
    (map given_to l.fn.places) l.places l.place-index
