use Rattle.std.proofs.Common.{◌-◌, ◌≤◌}
use Rattle.scq_judge.proofs.order_finding.calls_of.Given as goal

abbrev pub invariant-loop-i : goal.invariant-loop-i
invariant-loop-i l = l.got ≤ l.i

abbrev pub invariant-due : goal.invariant-due
invariant-due l = l.got ≤ l.i

abbrev pub decreases-due : goal.decreases-due
decreases-due l = l.i - l.got
