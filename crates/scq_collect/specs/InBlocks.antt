-- Answers in blocks of bytes.
use Rattle.std.specs.Prelude.{◌≡◌, ℕ, true, List, [], ◌∷◌, ◌++◌, flat_map}
use Rattle.std.specs.List.{All, AllZip}
use Rattle.scq_collect.specs.declared.blocks.OwnBlock.{OwnBlock}
use Rattle.scq_collect.specs.Joined.{PartAnswer}
use Rattle.scq_collect.specs.Coding.{IsCodable, answers_bytes}
use Rattle.scq_collect.specs.Spans.{is_in}

-- the bytes are those of these answers, whose messages stand in the block's span
pub record HasAnswers (block : OwnBlock) (answers : List PartAnswer) : Type 0 where
  pub bytes : block.bytes.items ≡ answers_bytes (0, 0) answers
  pub within : All (λ a. is_in block.span a ≡ true) answers

-- the file and line of the last answer, or those that came before where there is none
abbrev pub last_position : ℕ × ℕ → List PartAnswer → ℕ × ℕ
last_position before [] = before
last_position before (a ∷ more) = last_position (a.file, a.line) more

-- each full block has some answers, and the last block the rest, whose next one comes behind this
-- file and line; these are the answers, in their order
pub record AreInBlocks (full : List OwnBlock) (block : OwnBlock) (before : ℕ
    × ℕ) (answers : List PartAnswer) : Type 0 where
  pub groups : List (List PartAnswer)
  pub last : List PartAnswer
  pub each : AllZip HasAnswers full groups
  pub rest : HasAnswers block last
  pub at : before ≡ last_position (0, 0) last
  pub all : answers ≡ flat_map (λ group. group) groups ++ last
  pub codable : All IsCodable answers
