use Rattle.scq_law.proofs.Places.PlaceLaws.{got_below}
use Rattle.scq_law.proofs.laws.places_below_head_are_taken.Goals as goal

pub returns : goal.returns
returns c = λ setup m r p w a reach idle by low. got_below setup m reach idle r p w a by low
