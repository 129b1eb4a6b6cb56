use Rattle.scq_law.proofs.Progress.AloneCalls.{ends_alone}
use Rattle.scq_law.proofs.calls.calls_alone_end_soon.Goals as goal

pub returns : goal.returns
returns c = λ setup opening steps. ends_alone setup opening steps
