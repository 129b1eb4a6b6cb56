-- What is counted of answers, topic by topic.
use Rattle.std.specs.Prelude.{◌≡◌, ℕ, ◌*◌, ◌<◌, ◌≤◌, List, length, slice_index}
use Rattle.scq_collect.specs.Output.{Answer, bytes_on, count_on}
use Rattle.scq_collect.specs.declared.totals.Totals.{Totals}

-- on each of 17 topics, how many of these answers there are and how many bytes their payloads have;
-- and on no topic have these more than 2 ^ 64 - 1 bytes for each answer
pub record AreTotals (totals : Totals) (answers : List Answer) : Type 0 where
  pub counts : (topic : ℕ) → topic < 17 → slice_index totals.counts topic ≡ count_on topic answers
  pub bytes : (topic : ℕ) → topic < 17 → slice_index totals.bytes topic ≡ bytes_on topic answers
  pub small : (topic : ℕ) → bytes_on topic answers ≤ length answers * 18446744073709551615
