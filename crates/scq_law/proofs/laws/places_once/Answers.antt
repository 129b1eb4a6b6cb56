use Rattle.scq_law.proofs.Places.PlaceLaws.{places_once}
use Rattle.scq_law.proofs.laws.places_once.Goals as goal

pub returns : goal.returns
returns c = λ setup m reach. places_once setup m reach
