use Rattle.std.proofs.Common.{ℕ, ◌<◌}
use Rattle.std.specs.List.{All}
use Rattle.scq_core.specs.declared.step.Step.{Step}
use Rattle.rows_machine.proofs.orders.steps_of.Given as goal

abbrev pub invariant-loop-piece : goal.invariant-loop-piece
invariant-loop-piece l = All (λ (x : ℕ × Step). x.0 < 2) l.steps.items
