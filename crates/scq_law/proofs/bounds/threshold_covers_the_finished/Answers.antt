use Rattle.scq_law.proofs.Tickets.TicketLaws.{threshold_covers}
use Rattle.scq_law.proofs.bounds.threshold_covers_the_finished.Goals as goal

pub returns : goal.returns
returns c = λ setup m reach. threshold_covers setup m reach
