use Rattle.scq_law.proofs.Replays.RunLaws.{never_back}
use Rattle.scq_law.proofs.runs.words_never_come_back.Goals as goal

pub returns : goal.returns
returns c = λ setup m n later r s reach first second same. never_back setup m n later r s reach first second same
