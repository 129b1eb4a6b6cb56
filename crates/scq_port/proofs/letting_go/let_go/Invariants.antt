use Rattle.std.specs.Prelude.{◌≡◌, vec_len}
use Rattle.scq_port.specs.Exports.{LetsGo}
use Rattle.scq_port.proofs.Going.{Goes}
use Rattle.scq_port.proofs.letting_go.let_go.Given as goal

abbrev pub invariant-loop-slot : goal.invariant-loop-slot
invariant-loop-slot l =
    LetsGo l.queue l.pass l.slots.items × Goes l.fn.hand.slots.items l.fn.pass l.slots.items l.pass × (l.pass.number ≡ l.fn.pass.number)

abbrev pub decreases-loop-slot : goal.decreases-loop-slot
decreases-loop-slot l = vec_len l.slots
