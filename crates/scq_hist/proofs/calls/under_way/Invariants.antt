use Rattle.std.proofs.Common.{◌≡◌}
use Rattle.scq_hist.specs.Exports.{under_way}
use Rattle.scq_hist.proofs.calls.under_way.Given as goal

abbrev pub invariant-loop-i : goal.invariant-loop-i
invariant-loop-i l = l.started ≡ under_way l.events l.seat l.i
