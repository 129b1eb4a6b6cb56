use Rattle.std.proofs.Common.{ap}
use Rattle.scq_check.specs.declared.queues.Queue.{Queue}
use Rattle.scq_check.proofs.Saved.{tallies_more, kept_more}
use Rattle.scq_check.proofs.order.tallies_before.Goals as goal

pub loop-e-preserved : goal.loop-e-preserved
loop-e-preserved c =
    let add = c.in_ok-add.ensures in
    let old = c.loop-e.invariant in
    record {
      kept = kept_more _ _ _ _ _ add.tokens add.small add.at old.kept;
      tallies = tallies_more c.args.opening.now c.args.events.now c.loop-e.e c.queue_of.result c.loop-e.queues c.loop-e.tallies.items _ c.get.result.tally
          c.queue_of.ensures old.kept.at (ap (λ (q : Queue). q.tally) c.get.ensures) c.in_ok-push.ensures.items old.tallies;
    }
