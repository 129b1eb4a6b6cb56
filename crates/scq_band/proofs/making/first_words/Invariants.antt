use Rattle.scq_band.specs.Exports.{WordsAreOpened}
use Rattle.scq_band.proofs.making.first_words.Given as goal

abbrev pub invariant-loop-ring : goal.invariant-loop-ring
invariant-loop-ring l = WordsAreOpened l.fn.setup l.words.items l.ring 0
