use Rattle.std.proofs.Common.{◌≡◌, ◌≤◌, ◌++◌, ◌-◌, drop, length, map}
use Rattle.scq_collect.specs.Exports.{answers_of, answer_of_whole, plain}
use Rattle.scq_collect.proofs.merging.wholes_of.Given as goal

-- the answers so far, and those to the messages behind them
abbrev pub invariant-messages : goal.invariant-messages
invariant-messages l = record {
  within : l.at ≤ length l.spots;
  all : map answer_of_whole l.wholes.items ++ answers_of l.topics (plain (drop l.at l.spots)) ≡ answers_of l.topics (plain l.spots);
}

abbrev pub decreases-messages : goal.decreases-messages
decreases-messages l = length l.spots - l.at
