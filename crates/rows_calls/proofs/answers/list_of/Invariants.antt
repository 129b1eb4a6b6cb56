use Rattle.std.proofs.Common.{◌≤◌, length}
use Rattle.std.specs.List.{All}
use Rattle.rows_calls.proofs.answers.list_of.Given as goal

-- each topic so far is declared, or the number behind the last
abbrev pub invariant-loop-text : goal.invariant-loop-text
invariant-loop-text l = All (λ a. a.topic ≤ length l.topics) l.list
