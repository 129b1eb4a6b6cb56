use Rattle.std.proofs.Common.{◌≤◌}
use Rattle.scq_hist.specs.Exports.{IsCount}
use Rattle.scq_judge.specs.Exports.{Overlaps, Before, AreBusy}
use Rattle.scq_judge.proofs.counting.count_overlapping.Given as goal

abbrev pub invariant-loop-e : goal.invariant-loop-e
invariant-loop-e l = record {
  few : l.overlapping ≤ l.e;
  busy : AreBusy l.events l.e l.busy;
  count : IsCount (Before (Overlaps l.events) l.e) l.overlapping;
}
