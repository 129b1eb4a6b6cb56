use Rattle.scq_law.proofs.Aspects.ClaimedPuts.{once}
use Rattle.scq_law.proofs.Aspects.CoupledRuns.{tied_run}
use Rattle.scq_law.proofs.history.histories_are_once.Goals as goal

pub returns : goal.returns
returns c = λ setup opening steps recorded run. once setup opening recorded (tied_run setup opening steps recorded run.full run.seats run)
