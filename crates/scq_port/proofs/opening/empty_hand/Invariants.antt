use Rattle.std.proofs.Common.{◌≡◌, ◌≤◌, ◌-◌, replicate}
use Rattle.std.specs.Prelude.{None, vec_len, vec_capacity}
use Rattle.scq_port.proofs.opening.empty_hand.Given as goal

abbrev pub invariant-loop-slots : goal.invariant-loop-slots
invariant-loop-slots l =
    (l.slots.items ≡ replicate (vec_len l.slots) None) × (vec_len l.slots ≤ l.places) × (l.places ≤ vec_capacity l.slots)

abbrev pub decreases-loop-slots : goal.decreases-loop-slots
decreases-loop-slots l = l.places - vec_len l.slots
