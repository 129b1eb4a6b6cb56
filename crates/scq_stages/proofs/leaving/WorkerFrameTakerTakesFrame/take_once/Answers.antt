use Rattle.std.proofs.Common.{◌≡◌, false}
use Rattle.scq_passes.proofs.Results.{err-then, on-both}
use Rattle.scq_passes.specs.Exports.{HasLeftSo}
use Rattle.scq_stages.specs.Exports.{HasFinishedOne, HasTakenOne, LeavesOn, HasFewStageCalls}
use Rattle.scq_stages.proofs.Swept.{finishes-on, leaves-on}
use Rattle.scq_stages.proofs.leaving.WorkerFrameTakerTakesFrame.take_once.Goals as goal

pub returns-clause-taken : goal.returns-clause-taken
returns-clause-taken c =
    let its = c.finish_one.ensures in
    let One : Type 0 = HasTakenOne c.args.topic c.args.self.now.pass c.finish_one.new.self.pass in
    on-both c.finish_one.result (λ (one : One) (same : One). one.taken) its.taken its.taken

pub returns-clause-made : goal.returns-clause-made
returns-clause-made c =
    let was = c.args.self.now in
    let now = c.finish_one.new.self in
    let its = c.finish_one.ensures in
    let One : Type 0 = HasTakenOne c.args.topic was.pass now.pass in
    let Finished : Type 0 = now.starved ≡ false → HasFinishedOne c.args.topic was.pass now.pass was.members.items now.members.items in
    on-both c.finish_one.result (λ (one : One) (made : Finished).
    finishes-on was now one.taken (record { finished = λ fed. (made fed).finished; below = one.below; fed = its.starved })) its.taken its.finished

pub returns-clause-left : goal.returns-clause-left
returns-clause-left c =
    let was = c.args.self.now in
    let now = c.finish_one.new.self in
    err-then c.finish_one.result (λ l. (n : _) → HasLeftSo HasFewStageCalls n n was.pass now.pass l.held) (λ l. LeavesOn was now l.held)
    (λ l left. leaves-on was now l.held (record { left = left; fed = c.finish_one.ensures.starved })) c.finish_one.ensures.left
