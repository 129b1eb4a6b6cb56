use Rattle.scq_block.proofs.FrameLists.{IsGathering}
use Rattle.scq_block.proofs.block.Block.gather.Given as goal

abbrev pub invariant-loop-frame : goal.invariant-loop-frame
invariant-loop-frame l = IsGathering l.self.shell.ptr l.self.shell.len l.self.cap l.frames.items l.span

abbrev pub decreases-loop-frame : goal.decreases-loop-frame
decreases-loop-frame l = goal.left-loop-frame l
