use Rattle.std.proofs.Common.{refl}
use Rattle.scq_hist.proofs.NamesLemmas.{read}
use Rattle.scq_check.proofs.RefusedLemmas.{accepted_there, accepted_other}
use Rattle.scq_check.proofs.refused.is_accepted_at.Goals as goal

pub returns-in-Some : goal.returns-in-Some
returns-in-Some c =
    rw c.is_among.ensures
    (accepted_there _ _ _ _ _ _ (read _ _ _ _ c.requires.within c.index-events-e.is refl) c.in-Some.ensures c.requires.refusals)

pub returns-in-None : goal.returns-in-None
returns-in-None c =
    (λ _. accepted_other _ _ _ (read _ _ _ _ c.requires.within c.index-events-e.is refl) c.in-None.ensures, λ _. refl)
