use Rattle.std.proofs.Common.{◌≤◌}
use Rattle.scq_hist.specs.Exports.{IsPending, IsCount}
use Rattle.scq_hist.proofs.gets.pending_gets.Given as goal

abbrev pub invariant-loop-s : goal.invariant-loop-s
invariant-loop-s l = record { few : l.pending ≤ l.s; count : IsCount (IsPending l.events l.queue l.s) l.pending }
