use Rattle.std.proofs.Common.{ℕ, ◌<◌}
use Rattle.scq_hist.specs.Exports.{IsFreshAt}
use Rattle.scq_hist.proofs.freshness.first_unfresh.Given as goal

abbrev pub invariant-loop-e : goal.invariant-loop-e
invariant-loop-e l = (e : ℕ) → e < l.e → IsFreshAt l.opening l.events e
