use Rattle.scq_core.proofs.Steady.{steady}
use Rattle.scq_core.proofs.laws.seats_are_steady.Goals as goal

pub returns : goal.returns
returns c = λ setup m reach. steady setup m reach
