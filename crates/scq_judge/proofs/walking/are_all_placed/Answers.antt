use Rattle.std.proofs.Common.{arith}
use Rattle.scq_judge.proofs.walking.are_all_placed.Goals as goal

pub returns : goal.returns
returns c = λ all e lt. c.loop-e.invariant e (omega arith)
