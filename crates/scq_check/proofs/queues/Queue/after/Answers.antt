use Rattle.scq_check.proofs.QueueLemmas.{pending_by, queue_more}
use Rattle.scq_check.proofs.queues.Queue.after.Goals as goal

pub returns-clause-at : goal.returns-clause-at
returns-clause-at c = λ opening is.
    queue_more opening c.args.events.now c.args.queue c.args.e c.args.self _ c.requires.event.lawful
    c.right_till_now.ensures.claimed c.right_till_now.ensures.unclaimed
    (c.tally_after.ensures.tally opening is.tally) (pending_by _ _ _ _ _ _ c.counted.ensures.value c.never_ends.ensures is.pending) is
