use Rattle.scq_block.proofs.BlockFrames.{apart}
use Rattle.scq_block.proofs.laws.frames_lie_apart.Goals as goal

pub returns : goal.returns
returns c = apart
