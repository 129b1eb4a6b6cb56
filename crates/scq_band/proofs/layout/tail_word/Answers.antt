use Rattle.scq_band.proofs.Layouts.{tail_at}
use Rattle.scq_band.proofs.layout.tail_word.Goals as goal

pub returns-clause-word : goal.returns-clause-word
returns-clause-word c = tail_at c.args.setup.now c.args.ring c.ring_words.result c.ring_words.ensures.word
