use Rattle.std.proofs.Common.{subst}
use Rattle.scq_band.specs.Exports.{HaveSeenOneRun}
use Rattle.scq_queue.specs.Exports.{PassStanding}
use Rattle.scq_queue.proofs.queue.Queue.meet.Goals as goal

pub returns-clause-comparable : goal.returns-clause-comparable
returns-clause-comparable g c =
    subst (λ (p : PassStanding g.row.B.Denot). HaveSeenOneRun p.seen c.args.other.now.seen) c.one.view_is
    (subst (λ (p : PassStanding g.row.B.Denot). HaveSeenOneRun c.one.inside.seat.seen p.seen) c.other.view_is c.meet.ensures.comparable)
