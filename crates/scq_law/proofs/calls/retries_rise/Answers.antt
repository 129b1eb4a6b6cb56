use Rattle.scq_law.proofs.Retries.RetryLaws.{retries_rise}
use Rattle.scq_law.proofs.calls.retries_rise.Goals as goal

pub returns : goal.returns
returns c = λ setup m reach. retries_rise setup m reach
