use Rattle.std.proofs.Common.{refl, ap}
use Rattle.scq_block.specs.declared.frame.Frame.{Frame}
use Rattle.scq_queue.specs.Exports.{PassStanding}
use Rattle.scq_passes.proofs.PassLemmas.{looked}
use Rattle.scq_stages.specs.declared.worker.Worker.{Worker}
use Rattle.scq_stages.proofs.Swept.{finishes-on, finished-asked}
use Rattle.scq_stages.proofs.leaving.WorkerFrameTakerTakesFrame.closed.Goals as goal

-- it only asked
pub returns-clause-made : goal.returns-clause-made
returns-clause-made c =
    let was = c.args.self.now in
    let asks : Worker Frame _ = record was { pass = c.closed.new.pass } in
    let said = c.closed.ensures.looked in
    finishes-on was asks (looked _ _ _ said.1)
    (finished-asked was asks (ap (λ (x : PassStanding _). x.calls) said.1) refl refl)
