use Rattle.std.proofs.Common.{◌≤◌}
use Rattle.scq_hist.specs.Exports.{IsCount}
use Rattle.scq_judge.specs.Exports.{IsStartAt, Before}
use Rattle.scq_judge.proofs.counting.count_calls.Given as goal

abbrev pub invariant-loop-e : goal.invariant-loop-e
invariant-loop-e l = record { few : l.calls ≤ l.e; count : IsCount (Before (IsStartAt l.events) l.e) l.calls }
