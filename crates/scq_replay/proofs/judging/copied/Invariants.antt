use Rattle.std.proofs.Common.{◌≡◌, take}
use Rattle.scq_replay.proofs.judging.copied.Given as goal

abbrev pub invariant-loop-content : goal.invariant-loop-content
invariant-loop-content l = l.copy.items ≡ take l.content-index l.content-items
