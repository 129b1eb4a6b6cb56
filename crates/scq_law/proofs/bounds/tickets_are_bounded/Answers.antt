use Rattle.scq_law.proofs.Tickets.TicketLaws.{tickets_bounded}
use Rattle.scq_law.proofs.bounds.tickets_are_bounded.Goals as goal

pub returns : goal.returns
returns c = λ setup m reach. tickets_bounded setup m reach
