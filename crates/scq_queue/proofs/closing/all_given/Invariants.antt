use Rattle.std.proofs.Common.{take}
use Rattle.std.specs.Prelude.{All}
use Rattle.scq_queue.specs.Exports.{HasGivenBuffer}
use Rattle.scq_queue.proofs.closing.all_given.Given as goal

abbrev pub invariant-loop-value : goal.invariant-loop-value
invariant-loop-value g l = All (HasGivenBuffer g.B.Buffer.IsSameBuffer) (take l.value-index l.held)
