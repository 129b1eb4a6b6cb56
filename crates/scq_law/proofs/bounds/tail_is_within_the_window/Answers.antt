use Rattle.scq_law.proofs.Tickets.TicketLaws.{within_window}
use Rattle.scq_law.proofs.bounds.tail_is_within_the_window.Goals as goal

pub returns : goal.returns
returns c = λ setup m reach. within_window setup m reach
