use Rattle.std.proofs.Common.{[], length}
use Rattle.scq_topics.specs.Exports.{entries_of, first_fault}
use Rattle.scq_topics.proofs.EntriesRead.{EntriesAreRead}
use Rattle.scq_topics.proofs.topics.Topics.read.Given as goal

abbrev pub invariant-loop-entry : goal.invariant-loop-entry
invariant-loop-entry l = EntriesAreRead (entries_of l.text) (first_fault [] (entries_of l.text)) (length l.yielded) l.topics
