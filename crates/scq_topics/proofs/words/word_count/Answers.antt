-- At the end nothing is left in which a word could begin.
use Rattle.std.proofs.Common.{arith}
use Rattle.std.proofs.lemmas.List.{at_drop_all}
use Rattle.scq_topics.specs.Exports.{is_blank}
use Rattle.scq_topics.proofs.WordsBegun.{begun, begun-runs}
use Rattle.scq_topics.proofs.words.word_count.Goals as goal

pub returns : goal.returns
returns c =
    let bytes = c.args.payload.now in
    let none_left = at_drop_all (begun is_blank c.loop-byte.in_word) bytes c.loop-byte.byte-index (omega arith) in
    omega (arith, none_left, begun-runs is_blank bytes)
