use Rattle.scq_block.proofs.BlockFrames.{all_from_permutation}
use Rattle.scq_block.proofs.laws.all_frames_in_any_order.Goals as goal

pub returns : goal.returns
returns c = all_from_permutation
