use Rattle.scq_hist.proofs.Firsts.{none_iff}
use Rattle.scq_hist.proofs.freshness.fresh.Goals as goal

pub returns : goal.returns
returns c = none_iff _ _ _ c.is_none.ensures c.first_unfresh.ensures.first
