use Rattle.scq_law.proofs.Retries.StepLaws.{few_steps}
use Rattle.scq_law.proofs.calls.calls_take_few_steps.Goals as goal

pub returns : goal.returns
returns c = λ setup opening steps recorded run. few_steps setup opening steps recorded run
