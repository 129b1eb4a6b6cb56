use Rattle.scq_law.proofs.Aspects.InOrder.{in_order}
use Rattle.scq_law.proofs.Aspects.CoupledRuns.{tied_run}
use Rattle.scq_law.proofs.history.histories_are_in_order.Goals as goal

pub returns : goal.returns
returns c = λ setup opening steps recorded run. in_order setup opening run.full recorded (tied_run setup opening steps recorded run.full run.seats run)
