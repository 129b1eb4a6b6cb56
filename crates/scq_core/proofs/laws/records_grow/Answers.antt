use Rattle.scq_core.proofs.Records.{records_grow}
use Rattle.scq_core.proofs.laws.records_grow.Goals as goal

pub returns : goal.returns
returns c = λ setup m later seat step e. records_grow setup m later seat step e
