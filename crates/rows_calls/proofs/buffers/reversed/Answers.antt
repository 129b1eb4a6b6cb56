use Rattle.scq_block.proofs.BlockFrames.{all_from_permutation}
use Rattle.rows_calls.proofs.buffers.reversed.Goals as goal

pub merge-requires : goal.merge-requires
merge-requires c =
    all_from_permutation c.in-Ok.block c.in-Ok.frames.items c.reverse.new.self.items
    c.in-Ok.ensures.carved.all c.reverse.ensures.permutation
