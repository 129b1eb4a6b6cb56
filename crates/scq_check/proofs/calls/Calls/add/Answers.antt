use Rattle.std.proofs.Common.{refl, ap, ◌∙◌, unwrap_or}
use Rattle.scq_hist.proofs.NamesLemmas.{read}
use Rattle.scq_check.proofs.CallLemmas.{calls_more}
use Rattle.scq_check.proofs.Orders.{by_number}
use Rattle.scq_check.proofs.calls.Calls.add.Goals as goal

pub returns-in_ok-push-in-Start : goal.returns-in_ok-push-in-Start
returns-in_ok-push-in-Start c =
    calls_more _ _ _ _ _ _ (read _ _ _ _ c.requires.within c.index-events-e.is c.in-Start.is) c.requires.before refl
    c.in_ok-push-in-Start.ensures.items
    (λ q. by_number c.in-Start.seat q _ _ _ (c.in_ok-insert-in-Start.ensures.updates.0 q))

pub returns-in_ok-push-in-End : goal.returns-in_ok-push-in-End
returns-in_ok-push-in-End c =
    calls_more _ _ _ _ _ _ (read _ _ _ _ c.requires.within c.index-events-e.is c.in-End.is) c.requires.before
    (c.unwrap_or-start.ensures ∙ ap (λ o. unwrap_or o c.args.e) (c.remove.ensures.value ∙ c.requires.before.last c.in-End.seat))
    c.in_ok-push-in-End.ensures.items
    (λ q. by_number c.in-End.seat q _ _ _ (c.remove.ensures.updates.0 q))
