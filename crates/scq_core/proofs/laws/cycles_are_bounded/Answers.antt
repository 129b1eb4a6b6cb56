use Rattle.scq_core.proofs.Limits.{cycles_bounded}
use Rattle.scq_core.proofs.laws.cycles_are_bounded.Goals as goal

pub returns : goal.returns
returns c = λ setup m reach. cycles_bounded setup m reach
