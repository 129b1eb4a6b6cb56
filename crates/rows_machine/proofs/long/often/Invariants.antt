use Rattle.std.proofs.Common.{ℕ, ◌<◌}
use Rattle.std.specs.List.{All}
use Rattle.scq_core.specs.declared.step.Step.{Step}
use Rattle.rows_machine.proofs.long.often.Given as goal

abbrev pub invariant-rounds : goal.invariant-rounds
invariant-rounds l = All (λ (x : ℕ × Step). x.0 < 2) l.steps.items
