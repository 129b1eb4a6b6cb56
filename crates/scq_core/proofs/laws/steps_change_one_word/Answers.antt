use Rattle.scq_core.proofs.Fits.{step_changes}
use Rattle.scq_core.proofs.laws.steps_change_one_word.Goals as goal

pub returns : goal.returns
returns c = λ setup m later seat step e. step_changes setup m later seat step e
