-- What proofs and other crates import of these files.
pub use Rattle.scq_block.specs.Frames.{bytes_of, frame_start, IsSame, IsPlaced, AreInOrder}
pub use Rattle.scq_block.specs.Frames.{AreFramesFrom}
pub use Rattle.scq_block.specs.Blocks.{IsFrameOf, AreAllOf, IsCarved}
