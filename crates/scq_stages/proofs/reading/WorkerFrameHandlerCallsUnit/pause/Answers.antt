use Rattle.scq_desk.specs.Exports.{gone-none}
use Rattle.scq_stages.specs.Exports.{IsAt}
use Rattle.scq_stages.proofs.reading.WorkerFrameHandlerCallsUnit.pause.Goals as goal

-- it did nothing
pub returns-clause-handled : goal.returns-clause-handled
returns-clause-handled c =
    let queue = c.args._with.now.queue.now in
    gone-none (λ w. w.pass) (λ w. w.starved) (IsAt queue) queue 1 c.args.self.now c.requires.0 c.requires.1
