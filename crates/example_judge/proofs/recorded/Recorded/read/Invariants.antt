use Rattle.std.specs.List.{All}
use Rattle.example_judge.specs.Exports.{IsOn}
use Rattle.example_judge.proofs.recorded.Recorded.read.Given as goal

-- the events so far are on queue 0
abbrev pub invariant-loop-line : goal.invariant-loop-line
invariant-loop-line l = All (IsOn 0) l.events.items
