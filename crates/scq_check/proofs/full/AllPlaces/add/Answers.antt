use Rattle.scq_check.proofs.FullLemmas.{all_more}
use Rattle.scq_check.proofs.Orders.{by_number}
use Rattle.scq_check.proofs.full.AllPlaces.add.Goals as goal

pub returns : goal.returns
returns c =
    all_more c.args.room c.args.opening.now c.args.events.now c.queue_of-queue.result c.args.e c.args.self.now _ c.after-after.result
    c.queue_of-queue.ensures (λ q. by_number _ q _ _ _ (c.in_ok-insert.ensures.updates.0 q)) c.after-after.ensures c.requires.before
