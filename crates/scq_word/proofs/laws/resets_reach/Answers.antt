use Rattle.scq_word.proofs.BoundLemmas.{reset_covers, reset_reaches, reset_small}
use Rattle.scq_word.proofs.laws.resets_reach.Goals as goal

pub returns : goal.returns
returns c = record { covers = reset_covers; reaches = reset_reaches; small = reset_small }
