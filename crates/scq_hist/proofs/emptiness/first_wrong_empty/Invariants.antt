use Rattle.std.proofs.Common.{ℕ, ◌<◌}
use Rattle.scq_hist.specs.Exports.{IsEmptyRightAt}
use Rattle.scq_hist.proofs.emptiness.first_wrong_empty.Given as goal

abbrev pub invariant-loop-e : goal.invariant-loop-e
invariant-loop-e l = (e : ℕ) → e < l.e → IsEmptyRightAt l.opening l.events e
