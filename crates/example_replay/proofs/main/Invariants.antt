use Rattle.std.proofs.Common.{ℕ, ◌<◌}
use Rattle.std.specs.List.{All}
use Rattle.scq_core.specs.declared.step.Step.{Step}
use Rattle.example_replay.proofs.main.Given as goal

abbrev pub invariant-loop-line : goal.invariant-loop-line
invariant-loop-line l = All (λ (x : ℕ × Step). x.0 < l.setup.seats) l.steps.items
