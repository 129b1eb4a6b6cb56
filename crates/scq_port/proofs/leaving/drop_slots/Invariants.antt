use Rattle.std.specs.Prelude.{vec_len}
use Rattle.scq_port.proofs.leaving.drop_slots.Given as goal

abbrev pub decreases-loop-slot : goal.decreases-loop-slot
decreases-loop-slot l = vec_len l.slots
