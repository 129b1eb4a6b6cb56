use Rattle.std.proofs.Common.{◌≡◌, ◌∙◌, ap, arith}
use Rattle.scq_park.specs.Exports.{Post}
use Rattle.scq_worker.specs.Exports.{others_more}
use Rattle.scq_worker.proofs.bell.wake_others.Goals as goal

pub wake-requires-clause-stand : goal.wake-requires-clause-stand
wake-requires-clause-stand c = ap (λ (p : Post). p.crew) c.workers.invariant.0 ∙ c.requires.stand

pub returns-clause-rung : goal.returns-clause-rung
returns-clause-rung c =
    let all : c.workers.worker ≡ c.args.workers = omega arith in
    c.workers.invariant.1 ∙ ap (λ k. others_more c.worker-number.result k c.args.stand.now.wakes) all
    ∙ ap (λ n. others_more n c.args.workers c.args.stand.now.wakes) c.workers.invariant.2
