use Rattle.scq_law.proofs.Retries.CallLaws.{calls_end}
use Rattle.scq_law.proofs.calls.calls_end.Goals as goal

pub returns : goal.returns
returns c = λ setup m reach. calls_end setup m reach
