use Rattle.scq_law.proofs.Aspects.RecordsShown.{records_shown}
use Rattle.scq_law.proofs.history.histories_show_records.Goals as goal

pub returns : goal.returns
returns k c opening steps recorded run = records_shown c opening steps recorded run
