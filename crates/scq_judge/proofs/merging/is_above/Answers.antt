use Rattle.scq_judge.proofs.MergeLemmas.{above_iff}
use Rattle.scq_judge.proofs.merging.is_above.Goals as goal

pub returns : goal.returns
returns c = above_iff _ _ _ _ c.requires.later c.requires.within
