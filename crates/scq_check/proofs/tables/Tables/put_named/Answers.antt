use Rattle.scq_hist.specs.declared.events.Call.TheVariants.{Put}
use Rattle.scq_check.proofs.tables.Tables.put_named.Goals as goal

pub returns-in_err-queue : goal.returns-in_err-queue
returns-in_err-queue c =
    let start = c.in_ok-start.ensures in absurd (c.in_err-queue.ensures (Put start.queue start.content) (c.args.seat, start.put.starts))
