use Rattle.std.proofs.Common.{refl}
use Rattle.scq_check.proofs.FullLemmas.{getters_none}
use Rattle.scq_check.proofs.full.getters.Goals as goal

pub loop-e-init : goal.loop-e-init
loop-e-init c = getters_none _ _ _ refl (c.in_ok-flags.ensures.items_if_clones_equal (λ y h. h))
