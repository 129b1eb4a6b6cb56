use Rattle.std.proofs.Common.{◌≡◌, ◌≤◌, length}
use Rattle.scq_core.specs.Exports.{IsReachable, machine_of}
use Rattle.scq_lines.specs.Exports.{lines_of}
use Rattle.scq_replay.proofs.StepsRun.{LinesAreRun}
use Rattle.scq_replay.proofs.replaying.steps_text.Given as goal

abbrev pub invariant-lines : goal.invariant-lines
invariant-lines l =
    (l.state.setup ≡ l.fn.setup) × IsReachable l.state.setup (machine_of l.state) × (l.number ≤ 10001)
    × LinesAreRun l.fn.setup (machine_of l.fn.start) (lines_of l.fn.text) (machine_of l.state) l.number (lines_of l.rest) l.printed.items

abbrev pub decreases-lines : goal.decreases-lines
decreases-lines l = length l.rest
