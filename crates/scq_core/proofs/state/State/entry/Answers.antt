use Rattle.std.proofs.Common.{refl}
use Rattle.scq_core.proofs.state.State.entry.Goals as goal

pub returns-clause-index : goal.returns-clause-index
returns-clause-index c = c.word.ensures.index c.args.slot refl
