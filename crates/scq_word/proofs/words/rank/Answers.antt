use Rattle.std.proofs.Common.{rules}
use Rattle.scq_word.proofs.EntryLemmas.{rank_in-word_of}
use Rattle.scq_word.proofs.words.rank.Goals as goal

pub returns-clause-of_word : goal.returns-clause-of_word
returns-clause-of_word c order some own = rw (rank_in-word_of order c.args.entry own) (search rules)
