use Rattle.std.proofs.Common.{length, ◌-◌, ◌≢◌, ℕ, ◌<◌, ◌≤◌, slice_index_or}
use Rattle.scq_collect.proofs.messages.next_start.Given as goal

-- no message begins before this position
abbrev pub invariant-parts : goal.invariant-parts
invariant-parts l = record {
  from : l.from ≤ l.at;
  within : l.at ≤ length l.spots;
  between : (k : ℕ) (d : _) → l.from ≤ k → k < l.at → (slice_index_or l.spots k d).part ≢ 1;
}

abbrev pub decreases-parts : goal.decreases-parts
decreases-parts l = length l.spots - l.at
