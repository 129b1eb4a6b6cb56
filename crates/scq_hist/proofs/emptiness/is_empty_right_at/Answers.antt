use Rattle.std.proofs.Common.{arith, ◌<◌, refl}
use Rattle.scq_hist.proofs.OrderLemmas.{empty_decides}
use Rattle.scq_hist.proofs.UnderWay.{started}
use Rattle.scq_hist.proofs.emptiness.is_empty_right_at.Goals as goal

pub is_right_within-requires-clause-order : goal.is_right_within-requires-clause-order
is_right_within-requires-clause-order c =
    (let before : c.in-Some.start < c.args.e =
    (started c.args.events.now c.in-Some.ensures.seat c.args.e c.in-Some.start c.in-Some.ensures.call.under_way_till).before in omega arith)

pub returns-in-None : goal.returns-in-None
returns-in-None c = λ opening t. (λ _ s seat queue call. absurd (c.in-None.ensures.none s seat queue call), λ _. refl)

pub returns-in-Some : goal.returns-in-Some
returns-in-Some c = λ opening t. empty_decides opening _ _ _ _ _ c.in-Some.ensures (c.is_right_within.ensures opening t)
