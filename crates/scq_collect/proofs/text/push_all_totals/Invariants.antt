use Rattle.std.proofs.Common.{◌≡◌, ◌++◌, List}
use Rattle.std.specs.Prelude.{flat_map}
use Rattle.std.specs.List.{range_with_len}
use Rattle.scq_collect.specs.Exports.{Answer, total_line, AreTotals}
use Rattle.scq_collect.proofs.text.push_all_totals.Given as goal

-- the totals of the topics so far
abbrev pub invariant-loop-topic : goal.invariant-loop-topic
invariant-loop-topic l = (answers : List Answer) → AreTotals l.totals answers
    → l.text.items ≡ l.fn.text.items ++ flat_map (total_line l.topics answers) (range_with_len 0 l.topic)
