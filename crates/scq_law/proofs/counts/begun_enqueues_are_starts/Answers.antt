use Rattle.scq_law.proofs.Tickets.BegunLaws.{enqueues_begun}
use Rattle.scq_law.proofs.counts.begun_enqueues_are_starts.Goals as goal

pub returns : goal.returns
returns c = λ setup opening steps recorded run. enqueues_begun setup opening steps recorded run
