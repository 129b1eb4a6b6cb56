use Rattle.scq_law.proofs.Progress.WholeCalls.{delayed_by_ends}
use Rattle.scq_law.proofs.calls.calls_are_delayed_by_ends.Goals as goal

pub returns : goal.returns
returns c = λ setup opening steps. delayed_by_ends setup opening steps
