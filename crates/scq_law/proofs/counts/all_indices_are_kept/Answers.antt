use Rattle.scq_law.proofs.Balance.KeptLaws.{all_kept}
use Rattle.scq_law.proofs.counts.all_indices_are_kept.Goals as goal

pub returns : goal.returns
returns c = λ setup m reach. all_kept setup m reach
