use Rattle.scq_law.proofs.Aspects.EmptyRight.{has_aspects}
use Rattle.scq_law.proofs.Aspects.CoupledRuns.{tied_run}
use Rattle.scq_law.proofs.history.histories_have_aspects.Goals as goal

pub returns : goal.returns
returns c = λ setup opening steps recorded run. has_aspects setup opening run.full recorded (tied_run setup opening steps recorded run.full run.seats run)
