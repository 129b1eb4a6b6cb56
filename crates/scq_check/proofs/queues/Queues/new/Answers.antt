use Rattle.scq_check.proofs.QueueLemmas.{queues_start, small_start}
use Rattle.scq_check.proofs.queues.Queues.new.Goals as goal

pub returns-clause-small : goal.returns-clause-small
returns-clause-small c = small_start _ c.new.ensures.empty

pub returns-clause-at : goal.returns-clause-at
returns-clause-at c = queues_start c.args.opening.now c.args.events.now _ c.new.ensures.empty c.opening_tally.ensures.tally
