use Rattle.scq_law.proofs.Balance.KeptLaws.{balanced}
use Rattle.scq_law.proofs.counts.rings_are_balanced.Goals as goal

pub returns : goal.returns
returns c = λ setup m reach. balanced setup m reach
