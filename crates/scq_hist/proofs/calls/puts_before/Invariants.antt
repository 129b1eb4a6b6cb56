use Rattle.std.proofs.Common.{◌≡◌, ◌≤◌}
use Rattle.scq_hist.specs.Exports.{puts_before}
use Rattle.scq_hist.proofs.calls.puts_before.Given as goal

abbrev pub invariant-loop-event : goal.invariant-loop-event
invariant-loop-event l = record { count : l.puts ≡ puts_before l.events l.seat l.event-index; few : l.puts ≤ l.event-index }
