use Rattle.std.proofs.Common.{sym, subst, refl}
use Rattle.scq_queue.specs.Exports.{PassStanding}
use Rattle.scq_worker.specs.Exports.{HasAnswered}
use Rattle.scq_worker.proofs.worker.sweeping.WorkerFrameTakerTakesFrame.closed.Goals as goal

-- it only asked
pub returns-clause-made : goal.returns-clause-made
returns-clause-made g c =
    let was = c.args.self.now in
    let xs = was.members in
    record {
      answered = λ fed. subst (λ (q : PassStanding _). HasAnswered c.args.with.now.job.now.topics was.pass q xs xs) (sym c.closed.ensures.looked.1)
          (record { takes = λ so. so; directs = refl });
      fed = λ fed. fed;
    }
