use Rattle.std.proofs.Common.{◌≡◌, ◌≤◌, ◌<◌, ◌++◌, ◌-◌, drop, length}
use Rattle.std.specs.Prelude.{flat_map}
use Rattle.scq_collect.proofs.division.cuts_of.Given as goal

-- the cuts so far, and what stands behind them
abbrev pub invariant-cuts : goal.invariant-cuts
invariant-cuts l = record {
  within : l.at ≤ length l.spans;
  size : 0 < l.size;
  all : flat_map (λ cut. cut.now) l.cuts.items ++ drop l.at l.spans ≡ l.spans;
}

abbrev pub decreases-cuts : goal.decreases-cuts
decreases-cuts l = length l.spans - l.at
