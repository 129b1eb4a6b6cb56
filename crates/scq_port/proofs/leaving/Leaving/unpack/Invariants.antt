use Rattle.std.specs.Prelude.{vec_len}
use Rattle.scq_port.proofs.Unpacking.{Unpacks}
use Rattle.scq_port.proofs.leaving.Leaving.unpack.Given as goal

abbrev pub invariant-loop-slot : goal.invariant-loop-slot
invariant-loop-slot l = Unpacks l.fn.self.queue l.fn.self l.fn.values.items l.slots.items l.values.items

abbrev pub decreases-loop-slot : goal.decreases-loop-slot
decreases-loop-slot l = vec_len l.slots
