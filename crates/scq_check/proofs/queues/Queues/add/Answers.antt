use Rattle.std.proofs.Common.{refl, ◌≤◌, ◌+◌, subst}
use Rattle.scq_check.specs.Exports.{IsQueueAt}
use Rattle.scq_check.specs.declared.queues.Queue.{Queue}
use Rattle.scq_check.proofs.QueueLemmas.{queues_more, small_more}
use Rattle.scq_check.proofs.Orders.{by_number}
use Rattle.scq_check.proofs.queues.Queues.add.Goals as goal

pub returns-clause-small : goal.returns-clause-small
returns-clause-small c =
    small_more c.queue_of-queue.result c.args.e c.args.self.now _ c.after-after.result refl (λ q. by_number _ q _ _ _ (c.in_ok-insert.ensures.updates.0 q))
    (subst (λ (q : Queue). c.after-after.result.tally.ungot ≤ q.tally.ungot + 1) c.get.ensures c.after-after.ensures.few)
    (subst (λ (q : Queue). c.after-after.result.pending ≤ q.pending + 1) c.get.ensures c.after-after.ensures.few_gets)
    c.requires.small

pub returns-clause-at : goal.returns-clause-at
returns-clause-at c = λ opening are.
    queues_more opening c.args.events.now c.queue_of-queue.result c.args.e c.args.self.now _ c.after-after.result c.requires.event.lawful
    c.queue_of-queue.ensures refl
    (λ q. by_number _ q _ _ _ (c.in_ok-insert.ensures.updates.0 q))
    (subst (λ (q : Queue). IsQueueAt opening c.args.events.now c.queue_of-queue.result c.args.e q
    → IsQueueAt opening c.args.events.now c.queue_of-queue.result (c.args.e + 1) c.after-after.result) c.get.ensures (c.after-after.ensures.at opening))
    are
