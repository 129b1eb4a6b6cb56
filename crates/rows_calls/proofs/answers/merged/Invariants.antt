use Rattle.std.proofs.Common.{◌≤◌, length}
use Rattle.std.specs.List.{All}
use Rattle.scq_collect.specs.Exports.{members_of}
use Rattle.rows_calls.proofs.answers.merged.Given as goal

-- each topic so far is declared, or the number behind the last
abbrev pub invariant-loop-part : goal.invariant-loop-part
invariant-loop-part l = All (λ a. a.topic ≤ length l.topics) (members_of l.lists.items)
