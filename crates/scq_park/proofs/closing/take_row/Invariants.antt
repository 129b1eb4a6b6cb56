use Rattle.std.proofs.Common.{◌≡◌, map}
use Rattle.std.specs.Prelude.{vec_len}
use Rattle.scq_park.specs.Exports.{ParkerDeeds, AreFor, with_row}
use Rattle.scq_park.proofs.closing.take_row.Given as goal

abbrev pub invariant-loop-link : goal.invariant-loop-link
invariant-loop-link l =
    AreFor l.links.items l.wakers.items
    × (with_row l.wakers.items (map (λ (y : ParkerDeeds). y.deeds.woke) l.links.items)
    ≡ with_row l.fn.wakers.items (map (λ (y : ParkerDeeds). y.deeds.woke) l.fn.links.items))

abbrev pub decreases-loop-link : goal.decreases-loop-link
decreases-loop-link l = vec_len l.links
