use Rattle.std.proofs.Common.{◌≡◌, ◌+◌, ◌≤◌, ◌++◌, All}
use Rattle.std.specs.Prelude.{vec_len, vec_capacity, reverse}
use Rattle.scq_park.specs.declared.rested.Rested.{Rested}
use Rattle.scq_park.specs.Exports.{EachEnds, rests_between}
use Rattle.scq_park.proofs.closing.all_ended.Given as goal

abbrev pub invariant-loop-own : goal.invariant-loop-own
invariant-loop-own l =
    EachEnds (reverse l.wakers.items) (reverse l.owns.items)
    × (l.rested.items ++ rests_between (reverse l.wakers.items) (reverse l.owns.items) ≡ rests_between l.fn.wakers.items l.fn.owns.items)
    × (vec_len l.rested + vec_len l.owns ≤ vec_capacity l.rested)
    × All (λ (r : Rested). r.rests ≤ r.wakes) l.rested.items

abbrev pub decreases-loop-own : goal.decreases-loop-own
decreases-loop-own l = vec_len l.owns
