use Rattle.scq_check.proofs.FullLemmas.{takes_none, takes_there}
use Rattle.scq_check.proofs.full.takes.Goals as goal

pub returns-in-Some : goal.returns-in-Some
returns-in-Some c =
    rw c.is_among.ensures (takes_there _ _ _ _ _ _ _ c.in-Some.ensures.starts c.number.ensures c.requires.refusals)

pub returns-in-None : goal.returns-in-None
returns-in-None c = (λ t. absurd cc, λ take. absurd (takes_none _ _ _ c.in-None.ensures take))
