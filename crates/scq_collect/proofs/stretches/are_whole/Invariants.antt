use Rattle.std.proofs.Common.{ℕ, ◌-◌, ◌<◌, length, slice_index_or}
use Rattle.std.specs.Prelude.{IfOk, IsTrue, Result}
use Rattle.scq_word.specs.declared.NoMemory.{NoMemory}
use Rattle.scq_collect.specs.declared.stretches.Stretch.{Stretch}
use Rattle.scq_collect.proofs.stretches.are_whole.Given as goal

-- those so far are whole
abbrev pub invariant-each : goal.invariant-each
invariant-each l = (k : ℕ) (d : Result Stretch NoMemory) → k < l.at → k < length l.made → IfOk (slice_index_or l.made k d) (λ s. IsTrue s.whole)

abbrev pub decreases-each : goal.decreases-each
decreases-each l = length l.made - l.at
