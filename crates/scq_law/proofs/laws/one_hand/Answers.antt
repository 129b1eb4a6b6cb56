use Rattle.scq_law.proofs.Places.HandLaws.{one_hand}
use Rattle.scq_law.proofs.laws.one_hand.Goals as goal

pub returns : goal.returns
returns c = λ setup m reach. one_hand setup m reach
