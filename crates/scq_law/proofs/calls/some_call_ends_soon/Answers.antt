use Rattle.scq_law.proofs.Progress.ProgressLaws.{has_progress}
use Rattle.scq_law.proofs.calls.some_call_ends_soon.Goals as goal

pub returns : goal.returns
returns c = λ setup opening steps. has_progress setup opening steps
