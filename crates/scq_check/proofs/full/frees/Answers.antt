use Rattle.std.proofs.lemmas.Bool.{eq-eqb, eqb-true}
use Rattle.scq_check.proofs.FullLemmas.{frees_none, frees_there}
use Rattle.scq_check.proofs.full.frees.Goals as goal

pub returns-in-Some : goal.returns-in-Some
returns-in-Some c = frees_there _ _ _ _ _ _ _ c.in-Some.ensures c.queue_of.ensures (λ t. eqb-true _ _ t, λ same. eq-eqb _ _ same)

pub returns-in-None : goal.returns-in-None
returns-in-None c = (λ t. absurd cc, λ free. absurd (frees_none _ _ _ c.in-None.ensures free))
