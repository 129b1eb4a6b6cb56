use Rattle.std.proofs.Common.{ℕ, ◌<◌}
use Rattle.scq_hist.specs.Exports.{Names}
use Rattle.scq_hist.proofs.gets.first_named.Given as goal

abbrev pub invariant-loop-e : goal.invariant-loop-e
invariant-loop-e l = (d : ℕ) → d < l.e → ¬ Names l.events d l.name
