use Rattle.scq_law.proofs.Aspects.EmptyRight.{empty_right}
use Rattle.scq_law.proofs.Aspects.CoupledRuns.{tied_run}
use Rattle.scq_law.proofs.history.empties_are_right.Goals as goal

pub returns : goal.returns
returns c = λ setup opening steps recorded run. empty_right setup opening run.full recorded (tied_run setup opening steps recorded run.full run.seats run)
