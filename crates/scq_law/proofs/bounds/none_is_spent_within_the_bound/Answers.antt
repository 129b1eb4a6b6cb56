use Rattle.scq_law.proofs.Tickets.SpentTickets.{none_spent}
use Rattle.scq_law.proofs.bounds.none_is_spent_within_the_bound.Goals as goal

pub returns : goal.returns
returns c = λ setup m reach. none_spent setup m reach
