use Rattle.std.proofs.Common.{◌≡◌, ◌+◌, ◌<◌, ◌≤◌, ◌++◌, map, length, All}
use Rattle.std.specs.Prelude.{vec_len, vec_capacity, reverse}
use Rattle.scq_park.specs.Exports.{Post, ParkerDeeds, parkers_of, gathered, told, told_by_post}
use Rattle.scq_park.proofs.closing.gather.Given as goal

abbrev pub invariant-loop-stand : goal.invariant-loop-stand
invariant-loop-stand l =
    All (λ (p : Post). p.crew ≡ parkers_of l.wakers.items) (reverse l.stands.items)
    × All (λ (w : ParkerDeeds). 0 < w.deeds.parts) l.wakers.items
    × (gathered l.wakers.items (reverse l.stands.items) ≡ gathered l.fn.wakers.items l.fn.stands.items)
    × (map told l.owns.items ++ map told_by_post (reverse l.stands.items) ≡ map told_by_post l.fn.stands.items)
    × (vec_len l.owns + vec_len l.stands ≤ vec_capacity l.owns)
    × (All (λ (p : Post). length p.wakes ≡ length p.crew) (reverse l.stands.items)
    → All (λ (p : Post). length p.wakes ≡ length p.crew) l.fn.stands.items)

abbrev pub decreases-loop-stand : goal.decreases-loop-stand
decreases-loop-stand l = vec_len l.stands
