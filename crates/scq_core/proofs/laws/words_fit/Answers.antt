use Rattle.scq_core.proofs.Fits.{words_fit}
use Rattle.scq_core.proofs.laws.words_fit.Goals as goal

pub returns : goal.returns
returns c = λ setup m reach. words_fit setup m reach
