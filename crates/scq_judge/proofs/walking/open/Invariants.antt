use Rattle.std.proofs.Common.{◌≡◌, take}
use Rattle.scq_judge.specs.Sequential.{held_by, held_from}
use Rattle.scq_judge.proofs.walking.open.Given as goal

abbrev pub invariant-loop-j : goal.invariant-loop-j
invariant-loop-j l = held_by l.queue ≡ held_from 0 (take l.j l.opening)
