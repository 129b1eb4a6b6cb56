use Rattle.std.proofs.Common.{◌≡◌, ◌≤◌}
use Rattle.scq_hist.specs.Exports.{puts_before, NoPutBefore}
use Rattle.scq_hist.proofs.calls.put_named.Given as goal

abbrev pub invariant-loop-start : goal.invariant-loop-start
invariant-loop-start l = record {
  count : l.puts ≡ puts_before l.events l.seat l.start;
  few : l.puts ≤ l.start;
  none : NoPutBefore l.events l.seat l.number l.start;
}
