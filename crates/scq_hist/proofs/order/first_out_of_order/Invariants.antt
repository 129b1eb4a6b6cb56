use Rattle.std.proofs.Common.{ℕ, ◌<◌}
use Rattle.scq_hist.specs.Exports.{IsInOrderAt}
use Rattle.scq_hist.proofs.order.first_out_of_order.Given as goal

abbrev pub invariant-loop-e : goal.invariant-loop-e
invariant-loop-e l = (e : ℕ) → e < l.e → IsInOrderAt l.opening l.events e
