use Rattle.scq_law.proofs.Places.LaterLaws.{places_last}
use Rattle.scq_law.proofs.laws.places_last.Goals as goal

pub returns : goal.returns
returns c = λ setup m n reach later. places_last setup m n reach later
