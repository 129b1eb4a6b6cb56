use Rattle.scq_law.proofs.Places.EntryLaws.{entries_match_places}
use Rattle.scq_law.proofs.laws.entries_match_places.Goals as goal

pub returns : goal.returns
returns c = λ setup m reach. entries_match_places setup m reach
