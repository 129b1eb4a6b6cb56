use Rattle.std.proofs.Common.{◌+◌, ◌≤◌, ◌++◌, map}
use Rattle.std.specs.Prelude.{vec_len, vec_capacity, reverse}
use Rattle.scq_port.specs.Exports.{AreOpened}
use Rattle.scq_c.proofs.opening.boxed.Given as goal

abbrev pub invariant-loop-port : goal.invariant-loop-port
invariant-loop-port l =
    AreOpened l.fn.setup l.hold (map (λ b. b.value) l.boxes.items ++ reverse l.ports.items)
    × (vec_len l.boxes + vec_len l.ports ≤ vec_capacity l.boxes)

abbrev pub decreases-loop-port : goal.decreases-loop-port
decreases-loop-port l = vec_len l.ports
