-- The texts of stretches, gathered one by one.
use Rattle.std.specs.Prelude.{◌≡◌, ℕ, ◌≤◌, List, length, flat_map}
use Rattle.scq_topics.specs.declared.kind.Kind.{Kind}
use Rattle.scq_collect.specs.declared.pieces.Texts.{Texts}
use Rattle.scq_collect.specs.Output.{Answer, reply_line}
use Rattle.scq_collect.specs.Pieces.{pieces_bytes}
use Rattle.scq_collect.specs.Sums.{AreTotals}

-- the texts and totals of these answers, which are no more than the parts
pub record AreTextsOf (topics : List (List ℕ × Kind)) (answers : List Answer)
    (texts : Texts) : Type 0 where
  pub text : pieces_bytes texts.texts.items ≡ flat_map (reply_line topics) answers
  pub totals : AreTotals texts.totals answers
  pub few : length answers ≤ texts.parts
