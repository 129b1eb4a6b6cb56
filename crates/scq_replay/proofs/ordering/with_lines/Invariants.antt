use Rattle.std.proofs.Common.{length}
use Rattle.scq_lines.specs.Exports.{lines_of}
use Rattle.scq_replay.proofs.ScheduleRuns.{IsSoFar}
use Rattle.scq_replay.proofs.ordering.with_lines.Given as goal

abbrev pub invariant-lines : goal.invariant-lines
invariant-lines l = IsSoFar l.fn.start.state.setup (lines_of l.fn.lines) l.schedule l.number (lines_of l.rest)

abbrev pub decreases-lines : goal.decreases-lines
decreases-lines l = length l.rest
