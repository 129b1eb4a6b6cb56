-- While no message came: the messages ahead are those at the start, nothing was given, and the end was answered at most once.
use Rattle.scq_frames.specs.Exports.{EndsOnce, work_left}
use Rattle.scq_topics.specs.Exports.{topic_of}
use Rattle.scq_frames.proofs.NextLemmas.{Searches}
use Rattle.scq_frames.proofs.framer.Framer.next.Given as goal

abbrev pub invariant-loop-len : goal.invariant-loop-len
invariant-loop-len g l =
    Searches (topic_of l.topics) g.S.Source.left g.S.Source.faults l.fn.self l.self l.fn.source l.source
    × EndsOnce l.fn.self.ended l.self.ended (g.S.Source.ends l.fn.source) (g.S.Source.ends l.source)

abbrev pub decreases-loop-len : goal.decreases-loop-len
decreases-loop-len g l = work_left l.self
