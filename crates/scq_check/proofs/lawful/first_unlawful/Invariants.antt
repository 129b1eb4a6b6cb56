use Rattle.std.proofs.Common.{ℕ, ◌<◌, slice_get}
use Rattle.scq_hist.specs.Exports.{IsLawfulAt}
use Rattle.scq_check.specs.Exports.{IsCalls}
use Rattle.scq_check.proofs.lawful.first_unlawful.Given as goal

abbrev pub invariant-loop-e : goal.invariant-loop-e
invariant-loop-e l = record {
  calls : IsCalls l.events l.e l.calls;
  before : (e : ℕ) → e < l.e → IsLawfulAt l.events e (slice_get l.events e);
}
