use Rattle.scq_core.proofs.Limits.{counters_bounded}
use Rattle.scq_law.proofs.bounds.counters_are_bounded.Goals as goal

pub returns : goal.returns
returns c = λ setup m reach. counters_bounded setup m reach
