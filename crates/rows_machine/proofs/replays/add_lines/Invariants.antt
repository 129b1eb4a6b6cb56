use Rattle.std.proofs.Common.{ℕ, ◌<◌}
use Rattle.std.specs.List.{All}
use Rattle.scq_core.specs.declared.step.Step.{Step}
use Rattle.rows_machine.proofs.replays.add_lines.Given as goal

abbrev pub invariant-loop-line : goal.invariant-loop-line
invariant-loop-line l = All (λ (x : ℕ × Step). x.0 < 2) l.steps.items
