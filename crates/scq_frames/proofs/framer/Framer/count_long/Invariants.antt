-- While the line goes on: so many bytes of its payload came, nothing is held, and the end is not reached.
use Rattle.std.proofs.Common.{◌≡◌}
use Rattle.scq_frames.specs.Exports.{work_left}
use Rattle.scq_frames.proofs.CountLemmas.{CountsLongLine}
use Rattle.scq_frames.proofs.framer.Framer.count_long.Given as goal

abbrev pub invariant-reads : goal.invariant-reads
invariant-reads g l =
    CountsLongLine g.S.Source.left g.S.Source.faults l.fn.self l.self l.fn.source l.source l.len × (g.S.Source.ends l.source ≡ g.S.Source.ends l.fn.source)

abbrev pub decreases-reads : goal.decreases-reads
decreases-reads g l = work_left l.self
