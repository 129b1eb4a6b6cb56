use Rattle.std.proofs.Common.{ℕ, ◌<◌}
use Rattle.std.specs.List.{All}
use Rattle.scq_core.specs.declared.step.Step.{Step}
use Rattle.rows_machine.proofs.schedules.push_steps.Given as goal

abbrev pub invariant-loop-word : goal.invariant-loop-word
invariant-loop-word l = All (λ (x : ℕ × Step). x.0 < 2) l.steps.items
