-- Which frames are a block's, and when all of them are there.
use Rattle.std.specs.Prelude.{◌≡◌, ℕ, ◌<◌, List, length, map}
use Rattle.std.specs.List.{All, range_with_len}
use Rattle.std.specs.List.Sorted.{IsPermutation}
use Rattle.scq_block.specs.declared.frame.Frame.{Frame}
use Rattle.scq_block.specs.declared.block.Block.{Block}
use Rattle.scq_block.specs.Frames.{IsPlaced, AreInOrder, AreZero}

-- the frame is one of the block's
pub record IsFrameOf (b : Block) (f : Frame) : Type 0 where
  pub number : f.number < b.count
  pub placed : IsPlaced b.shell.ptr b.cap f

-- each frame of the block is there once, in whatever order
pub record AreAllOf (b : Block) (fs : List Frame) : Type 0 where
  pub own : All (IsFrameOf b) fs
  pub once : IsPermutation (range_with_len 0 b.count) (map (λ f. f.number) fs)

-- the block has n frames of `cap` bytes; these are they, in order of number, and all bytes are 0
pub record IsCarved (n cap : ℕ) (b : Block) (fs : List Frame) : Type 0 where
  pub count : (b.count ≡ n) × (length fs ≡ n)
  pub size : b.cap ≡ cap
  pub all : AreAllOf b fs
  pub ordered : AreInOrder fs
  pub zero : AreZero cap fs
