use Rattle.std.specs.Prelude.{vec_len}
use Rattle.scq_port.proofs.leaving.drop_values.Given as goal

abbrev pub decreases-loop-value : goal.decreases-loop-value
decreases-loop-value l = vec_len l.values
