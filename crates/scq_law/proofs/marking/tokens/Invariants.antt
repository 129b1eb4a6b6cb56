use Rattle.std.proofs.Common.{◌≡◌}
use Rattle.scq_law.specs.Exports.{tokens_below}
use Rattle.scq_law.proofs.marking.tokens.Given as goal

abbrev pub invariant-loop-number : goal.invariant-loop-number
invariant-loop-number l = l.members.items ≡ tokens_below l.slots l.number
