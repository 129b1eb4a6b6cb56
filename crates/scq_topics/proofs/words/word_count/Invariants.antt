use Rattle.std.proofs.Common.{◌≡◌, ◌+◌, ◌≤◌, drop, false}
use Rattle.scq_topics.proofs.WordsBegun.{begun}
use Rattle.scq_topics.specs.Exports.{is_blank}
use Rattle.scq_topics.proofs.words.word_count.Given as goal

abbrev pub invariant-loop-byte : goal.invariant-loop-byte
invariant-loop-byte l =
    (l.count ≤ l.byte-index) × (l.count + begun is_blank l.in_word (drop l.byte-index l.payload) ≡ begun is_blank false l.payload)
