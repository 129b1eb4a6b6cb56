use Rattle.std.proofs.Common.{refl}
use Rattle.scq_hist.proofs.Claims.{claims_iff}
use Rattle.scq_hist.proofs.OrderLemmas.{claims_decide, no_put_in_order}
use Rattle.scq_hist.proofs.order.is_in_order_at.Goals as goal

pub returns-in-None : goal.returns-in-None
returns-in-None c = λ opening t. (λ _. no_put_in_order opening _ _ c.in-None.ensures, λ _. refl)

pub returns-in-Some : goal.returns-in-Some
returns-in-Some c = λ opening t. claims_decide opening _ _ _ _ _ c.in-Some.ensures
    (claims_iff _ _ _ _ _ _ _ _ c.requires.lawful (c.finished_tally-tally.ensures.tally opening t) c.pending_gets.ensures.count c.are_claimed.ensures)
