use Rattle.scq_block.proofs.BlockFrames.{all_from_same}
use Rattle.scq_block.proofs.laws.the_same_frames_are_all.Goals as goal

pub returns : goal.returns
returns c = all_from_same
