use Rattle.std.proofs.Common.{◌≡◌, false}
use Rattle.scq_passes.specs.Exports.{HasTaken}
use Rattle.scq_passes.proofs.Results.{on-both}
use Rattle.scq_worker.specs.Exports.{HasAnswered}
use Rattle.scq_worker.proofs.worker.sweeping.WorkerFrameTakerTakesFrame.take_once.Goals as goal

pub returns-clause-made : goal.returns-clause-made
returns-clause-made g c =
    let was = c.args.self.now in
    let now = c.take_one.new.self in
    let its = c.take_one.ensures in
    let Answers : Type 0 = now.starved ≡ false
    → HasAnswered c.args.with.now.job.now.topics was.pass now.pass was.members now.members in
    on-both c.take_one.result (λ (taken : HasTaken was.pass now.pass) (answered : Answers). record { answered = answered; fed = its.starved }) its.taken
    its.answered
