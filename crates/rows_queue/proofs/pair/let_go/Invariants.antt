use Rattle.std.specs.Prelude.{vec_len}
use Rattle.rows_queue.proofs.pair.let_go.Given as goal

abbrev pub decreases-loop-held : goal.decreases-loop-held
decreases-loop-held g l = vec_len l.values
