use Rattle.std.proofs.Common.{sym}
use Rattle.scq_judge.proofs.counting.named_by.Goals as goal

pub returns-in-Start-event : goal.returns-in-Start-event
returns-in-Start-event c = rw (c.in-Queue.is, c.in-Start-event.is) (sym (c.queue_of.ensures c.in-Start-event.seat))
