use Rattle.std.proofs.Common.{◌≡◌, subst, false}
use Rattle.scq_queue.specs.Exports.{PassStanding}
use Rattle.scq_passes.specs.Exports.{HasLeftSo, TookNoneBelow, after_retire}
use Rattle.scq_passes.proofs.Results.{either-way, err-then, on-both}
use Rattle.scq_stages.specs.Exports.{first, HasGivenBack, HasFinished, FinishesOn, LeavesOn, HasFewStageCalls}
use Rattle.scq_stages.specs.declared.worker.Worker.{Worker}
use Rattle.scq_block.specs.declared.frame.Frame.{Frame}
use Rattle.scq_passes.proofs.PassLemmas.{taken-nothing}
use Rattle.scq_stages.proofs.Swept.{finished-none}
use Rattle.scq_stages.proofs.BehindRetiring.{leaving-of}
use Rattle.scq_stages.proofs.leaving.leave.Goals as goal

pub returns-clause-leaving : goal.returns-clause-leaving
returns-clause-leaving c =
    let was = c.args.worker.now in
    let now = c.sweep_out.new.taker in
    let at = c.retire.new.pass in
    let begun : Worker Frame _ = record was { pass = at } in
    let is : at ≡ after_retire was.pass = c.retire.ensures in
    on-both c.sweep_out.result (λ (taken : HasGivenBack at now.pass) (makes : FinishesOn begun now) messages done.
    let its = makes begun (taken-nothing at) (finished-none begun) in
    leaving-of messages was.pass now.pass was.members.items now.members.items was.starved now.starved done
    (subst (λ (x : PassStanding _). HasGivenBack x now.pass) is taken)
    (subst (λ (x : PassStanding _). TookNoneBelow first x now.pass) is its.below) its.fed
    (subst (λ (x : PassStanding _). now.starved ≡ false → HasFinished x now.pass was.members.items now.members.items) is its.finished))
    c.sweep_out.ensures.taken c.sweep_out.ensures.made

pub returns-clause-left : goal.returns-clause-left
returns-clause-left c =
    let now = c.sweep_out.new.taker.pass in
    let begun : Worker Frame _ = record c.args.worker.now { pass = c.retire.new.pass } in
    let is : c.retire.new.pass ≡ after_retire c.args.worker.now.pass = c.retire.ensures in
    err-then c.sweep_out.result _ _
    (λ l its n. subst (λ (x : PassStanding _). HasLeftSo HasFewStageCalls n n x now l.held) is
    ((its begun (taken-nothing begun.pass) (finished-none begun)).left n)) c.sweep_out.ensures.left

pub returns-clause-starved : goal.returns-clause-starved
returns-clause-starved c =
    let begun : Worker Frame _ = record c.args.worker.now { pass = c.retire.new.pass } in
    let now = c.sweep_out.new.taker in
    either-way c.sweep_out.result (λ l. LeavesOn begun now l.held)
    (λ (makes : FinishesOn begun now). (makes begun (taken-nothing begun.pass) (finished-none begun)).fed)
    (λ l left. (left begun (taken-nothing begun.pass) (finished-none begun)).fed) c.sweep_out.ensures.made c.sweep_out.ensures.left
