use Rattle.scq_law.proofs.Tickets.SpentLaws.{spent_kept}
use Rattle.scq_law.proofs.bounds.spent_tickets_are_kept.Goals as goal

pub returns : goal.returns
returns c = λ setup m reach. spent_kept setup m reach
