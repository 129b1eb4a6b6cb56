-- Blocks of answers.
use Rattle.std.specs.Prelude.{◌≡◌, true, List, flat_map}
use Rattle.std.specs.List.{All, AllZip}
use Rattle.scq_collect.specs.declared.laid.Block.{Block}
use Rattle.scq_collect.specs.Coding.{IsCodable, answers_bytes}
use Rattle.scq_collect.specs.Joined.{PartAnswer}
use Rattle.scq_collect.specs.Spans.{is_in}

-- the bytes are those of these answers, whose messages stand in the block's span
pub record IsBlockOf (block : Block) (answers : List PartAnswer) : Type 0 where
  pub bytes : block.bytes.now ≡ answers_bytes (0, 0) answers
  pub codable : All IsCodable answers
  pub within : All (λ a. is_in block.span a ≡ true) answers

-- the blocks have these answers, in their order
pub record AreLaid (answers : List PartAnswer) (blocks : List Block) : Type 0 where
  pub groups : List (List PartAnswer)
  pub each : AllZip IsBlockOf blocks groups
  pub all : answers ≡ flat_map (λ group. group) groups
