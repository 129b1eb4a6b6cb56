use Rattle.std.proofs.Common.{ℕ, ◌<◌, slice_get}
use Rattle.scq_hist.specs.Exports.{IsLawfulAt}
use Rattle.scq_hist.proofs.lawful.lawful_calls.Given as goal

abbrev pub invariant-loop-i : goal.invariant-loop-i
invariant-loop-i l = (k : ℕ) → k < l.i → IsLawfulAt l.events k (slice_get l.events k)
