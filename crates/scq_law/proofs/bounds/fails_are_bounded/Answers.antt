use Rattle.scq_law.proofs.Threshold.FailsBound.{fails_bounded}
use Rattle.scq_law.proofs.bounds.fails_are_bounded.Goals as goal

pub returns : goal.returns
returns c = λ setup opening steps recorded run. fails_bounded setup opening steps recorded run.full run.seats run.recorded_is
