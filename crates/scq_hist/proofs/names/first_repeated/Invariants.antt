use Rattle.std.proofs.Common.{ℕ, ◌<◌}
use Rattle.scq_hist.specs.Exports.{IsOnceAt}
use Rattle.scq_hist.proofs.names.first_repeated.Given as goal

abbrev pub invariant-loop-e : goal.invariant-loop-e
invariant-loop-e l = (e : ℕ) → e < l.e → IsOnceAt l.events e
