use Rattle.scq_core.proofs.Fits.{step_rises}
use Rattle.scq_core.proofs.laws.counters_rise.Goals as goal

pub returns : goal.returns
returns c = λ setup m later seat step reach e. (step_rises setup m later seat step reach e).1
