use Rattle.scq_check.proofs.FullLemmas.{fills_by}
use Rattle.scq_check.proofs.full.fills.Goals as goal

pub returns : goal.returns
returns c = rw c.is_some.ensures (fills_by _ _ _ _ c.done_put.ensures)
