use Rattle.std.proofs.Common.{◌-◌, vec_capacity}
use Rattle.scq_block.proofs.FrameLists.{IsDealing}
use Rattle.scq_block.proofs.block.deal.Given as goal

abbrev pub invariant-loop-number : goal.invariant-loop-number
invariant-loop-number l = IsDealing l.start l.n l.cap l.number (vec_capacity l.frames) l.frames.items l.rest

abbrev pub decreases-loop-number : goal.decreases-loop-number
decreases-loop-number l = l.n - l.number
