use Rattle.std.proofs.Common.{map, take}
use Rattle.scq_collect.specs.Exports.{answer_of_whole, AreTotals}
use Rattle.scq_collect.proofs.totals.totals_of.Given as goal

-- the totals of the answers so far
abbrev pub invariant-loop-whole : goal.invariant-loop-whole
invariant-loop-whole l = AreTotals l.totals (map answer_of_whole (take l.whole-index l.wholes))
