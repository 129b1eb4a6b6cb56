use Rattle.std.proofs.Common.{◌≤◌}
use Rattle.scq_hist.specs.Exports.{IsCount}
use Rattle.scq_check.specs.Exports.{EndsSo, HoldsBefore}
use Rattle.scq_check.proofs.endings.count_ending.Given as goal

abbrev pub invariant-loop-e : goal.invariant-loop-e
invariant-loop-e l = record { few : l.count ≤ l.e; count : IsCount (HoldsBefore (EndsSo l.events l.ending) l.e) l.count }
