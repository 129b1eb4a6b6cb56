use Rattle.std.proofs.Common.{◌≡◌, List, ◌++◌, map, replicate}
use Rattle.std.specs.Prelude.{Option, Some, None, vec_len}
use Rattle.scq_port.specs.Exports.{PortStanding}
use Rattle.scq_c.specs.Exports.{ports_of, memories_of}
use Rattle.scq_c.proofs.opening.fill.Given as goal

abbrev pub invariant-loop-port : goal.invariant-loop-port
invariant-loop-port l =
    (memories_of l.ports ≡ memories_of l.fn.ports) × ((rest : List (Option PortStanding))
    × (map (λ b. Some b.value) l.boxes.items ++ rest ≡ map (λ b. Some b.value) l.fn.boxes.items)
    × (ports_of l.ports ≡ replicate (vec_len l.boxes) None ++ rest))

abbrev pub decreases-loop-port : goal.decreases-loop-port
decreases-loop-port l = vec_len l.boxes
