use Rattle.std.proofs.Common.{◌≡◌, ℕ}
use Rattle.std.specs.Prelude.{None, vec_len}
use Rattle.scq_law.specs.Exports.{name_at}
use Rattle.scq_law.proofs.recording.no_names.Given as goal

abbrev pub invariant-loop : goal.invariant-loop
invariant-loop l = (vec_len l.names ≡ l.counter) × ((r p : ℕ) → name_at l.names.items r p ≡ None)
