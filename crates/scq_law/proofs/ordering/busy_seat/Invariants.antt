use Rattle.std.proofs.Common.{◌≡◌, ℕ, ◌<◌}
use Rattle.scq_core.specs.declared.phase.Phase.TheVariants.{Idle}
use Rattle.scq_core.specs.Exports.{machine_of}
use Rattle.scq_law.proofs.ordering.busy_seat.Given as goal

abbrev pub invariant-loop-seat : goal.invariant-loop-seat
invariant-loop-seat l = (k : ℕ) → k < l.seat → ((machine_of l.state).part k).phase ≡ Idle
