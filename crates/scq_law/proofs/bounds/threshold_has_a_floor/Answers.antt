use Rattle.scq_core.proofs.Floor.{threshold_floor}
use Rattle.scq_law.proofs.bounds.threshold_has_a_floor.Goals as goal

pub returns : goal.returns
returns c = λ setup m reach. threshold_floor setup m reach
