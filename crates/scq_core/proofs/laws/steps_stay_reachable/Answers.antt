use Rattle.scq_core.specs.Exports.{by_step}
use Rattle.scq_core.proofs.laws.steps_stay_reachable.Goals as goal

pub returns : goal.returns
returns c = λ setup m later seat step reach low e. by_step seat step reach low e
