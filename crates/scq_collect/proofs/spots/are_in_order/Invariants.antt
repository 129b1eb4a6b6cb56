use Rattle.std.proofs.Common.{ℕ, ◌+◌, ◌-◌, ◌<◌, length, slice_index_or}
use Rattle.scq_collect.specs.declared.spots.Spot.{Spot}
use Rattle.scq_collect.specs.Exports.{IsBefore, position_of_spot}
use Rattle.scq_collect.proofs.spots.are_in_order.Given as goal

-- those so far are in order
abbrev pub invariant-spots : goal.invariant-spots
invariant-spots l = record {
  some : 0 < l.at;
  so_far : (k : ℕ) (d : Spot) → k + 1 < l.at → k + 1 < length l.spots
      → ¬ IsBefore (position_of_spot (slice_index_or l.spots (k + 1) d)) (position_of_spot (slice_index_or l.spots k d));
}

abbrev pub decreases-spots : goal.decreases-spots
decreases-spots l = length l.spots - l.at
