use Rattle.std.proofs.Common.{length}
use Rattle.scq_lines.specs.Exports.{lines_of}
use Rattle.scq_check.proofs.Reading.{LinesAreRead}
use Rattle.scq_check.proofs.history.read_history.Given as goal

abbrev pub invariant-lines : goal.invariant-lines
invariant-lines l = LinesAreRead (lines_of l.fn.text) (lines_of l.rest) l.history.opening.items l.history.events.items l.number

abbrev pub decreases-lines : goal.decreases-lines
decreases-lines l = length l.rest
