use Rattle.scq_core.proofs.Starts.{starts_full}
use Rattle.scq_core.proofs.laws.start_is_full_by_ticket.Goals as goal

pub returns : goal.returns
returns c = λ setup opening. starts_full setup opening
