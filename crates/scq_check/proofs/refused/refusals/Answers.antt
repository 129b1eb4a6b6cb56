use Rattle.scq_check.proofs.RefusedLemmas.{refusals_none}
use Rattle.scq_check.proofs.refused.refusals.Goals as goal

pub loop-e-init : goal.loop-e-init
loop-e-init c = refusals_none _ _ c.new-refusals.ensures
