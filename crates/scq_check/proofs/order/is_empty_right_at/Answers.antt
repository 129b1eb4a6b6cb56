use Rattle.std.proofs.Common.{refl, subst, sym}
use Rattle.scq_hist.proofs.OrderLemmas.{empty_decides}
use Rattle.scq_hist.proofs.UnderWay.{started}
use Rattle.scq_check.specs.Exports.{IsQueueAt}
use Rattle.scq_check.specs.declared.queues.Queue.{Queue}
use Rattle.scq_check.proofs.QueueLemmas.{right_since}
use Rattle.scq_check.proofs.order.is_empty_right_at.Goals as goal

pub returns-in-None : goal.returns-in-None
returns-in-None c = λ opening at. (λ _ s seat queue call. absurd (c.in-None.ensures.none s seat queue call), λ _. refl)

pub returns-in-Some : goal.returns-in-Some
returns-in-Some c = λ opening at.
    empty_decides opening _ _ _ _ _ c.in-Some.ensures
    (right_since opening _ _ _ _ c.get.result _ c.requires.lawful (started _ _ _ _ c.in-Some.ensures.call.under_way_till).before
    (subst (λ (q : Queue). IsQueueAt opening c.args.events.now c.in-Some.queue c.args.e q) (sym c.get.ensures) (at.each c.in-Some.queue)) c.was_claimed.ensures)
