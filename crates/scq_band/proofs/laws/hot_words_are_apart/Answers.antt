use Rattle.scq_band.proofs.Layouts.{hot_apart}
use Rattle.scq_band.proofs.laws.hot_words_are_apart.Goals as goal

pub returns : goal.returns
returns c = hot_apart
