use Rattle.scq_core.specs.Exports.{at_start}
use Rattle.scq_core.proofs.laws.start_is_reachable.Goals as goal

pub returns : goal.returns
returns c = λ setup opening full. at_start opening full
