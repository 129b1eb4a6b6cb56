use Rattle.std.proofs.Common.{None, ◌≡◌, ◌==◌, ◌+◌, ◌∙◌, ap, sym, subst, arith, length}
use Rattle.scq_block.specs.Exports.{bytes_of}
use Rattle.scq_queue.specs.Exports.{PassStanding}
use Rattle.scq_passes.specs.Exports.{IsReturn}
use Rattle.scq_rest.specs.Exports.{HasSweptTold, HasWaited}
use Rattle.scq_worker.specs.Exports.{IsToSweepAt, takes_behind, others_more_where}
use Rattle.scq_worker.specs.declared.worker.Worker.{Worker}
use Rattle.scq_desk.proofs.Passes.{none-or}
use Rattle.scq_passes.proofs.Kept.{taken-sends}
use Rattle.scq_worker.proofs.Produced.{sweep-suits, swept-out, late-out}
use Rattle.scq_rest.proofs.Waited.{waited-told, waited-spent, sweep-unasked}
use Rattle.scq_rest.proofs.finishing.finish.Goals as goal
use Rattle.scq_rest.proofs.finishing.finish.Goals.{In-None}

pub returns-in-Some-clause-run : goal.returns-in-Some-clause-run
returns-in-Some-clause-run g c = c.requires.produced.done c.in-Some.field-0 (sym c.in-Some.ensures)

pub returns-in-Some-clause-waited : goal.returns-in-Some-clause-waited
returns-in-Some-clause-waited g c =
    waited-spent bytes_of (length c.args.job.now.topics + 1) (takes_behind c.args.job.now.most) c.args.stand.now.rests c.in-Some.field-0 c.args.desk.now.worker.worker.pass (sym c.in-Some.ensures)

-- it met no ticket past the limit while it read its files
sweeps : (g : _) (c : In-None g) → IsToSweepAt c.args.queue.now c.args.job.now g.S.Source c.args.desk.now
sweeps g c = c.requires.produced.awake (sym c.in-None.ensures)

pub sweep_and_rest-requires-clause-suits : goal.sweep_and_rest-requires-clause-suits
sweep_and_rest-requires-clause-suits g c κs within =
    let was = c.args.desk.now.worker in
    sweep-suits c.args.queue.now c.args.job.now g.S.Source c.args.desk.now.files.items was.worker was.worker was.kept
    (sweeps g (goal.at.sweep_and_rest-requires-clause-suits g c).In-None)

pub sweep_and_rest-requires-clause-stand : goal.sweep_and_rest-requires-clause-stand
sweep_and_rest-requires-clause-stand g c κs within = c.requires.stand.0

pub sweep_and_rest-requires-clause-workers : goal.sweep_and_rest-requires-clause-workers
sweep_and_rest-requires-clause-workers g c κs within = c.requires.workers

pub returns-in-Ok-clause-run : goal.returns-in-Ok-clause-run
returns-in-Ok-clause-run g c =
    let end = c.in-Ok.ensures in
    swept-out c.args.queue.now c.args.job.now g.S.Source c.args.desk.now.files.items c.args.desk.now.worker.worker
    c.sweep_and_rest.new.taker c.args.desk.now.worker.kept (sweeps g (goal.at.returns-in-Ok-clause-run g c).In-None)
    c.len-topics.result c.len-topics.ensures.value end.taken end.out.past end.made

pub returns-in-Ok-clause-waited : goal.returns-in-Ok-clause-waited
returns-in-Ok-clause-waited g c =
    let rests = c.sweep_and_rest.new.stand.rests in
    let end = c.in-Ok.ensures in
    let was = c.args.desk.now.worker.worker.pass in
    let now = c.sweep_and_rest.new.taker.pass in
    let all : end.swept.0 ≡ rests = omega (arith, end.swept.1, c.requires.stand.1) in
    waited-told c.args.queue.now c.args.job.now g.S.Source c.args.desk.now.files.items c.args.desk.now.worker.worker
    c.sweep_and_rest.new.taker c.args.desk.now.worker.kept (sweeps g (goal.at.returns-in-Ok-clause-waited g c).In-None) bytes_of
    c.args.stand.now.rests rests c.len-topics.result c.len-topics.ensures.value end.taken
    (subst (λ n. HasSweptTold bytes_of c.args.queue.now IsReturn (c.len-topics.result + 1) n was now) all end.swept.2) end.out.told end.out.vain

-- it had asked nothing before, so if one question more was its last, it was its first
pub returns-in-Ok-clause-rung : goal.returns-in-Ok-clause-rung
returns-in-Ok-clause-rung g c awake =
    let now = c.sweep_and_rest.new.taker.pass in
    let none : c.args.desk.now.worker.worker.pass.gates ≡ 0 =
    sweep-unasked c.args.queue.now c.args.job.now g.S.Source c.args.desk.now.files.items c.args.desk.now.worker.worker
    c.args.desk.now.worker.worker c.args.desk.now.worker.kept (sweeps g (goal.at.returns-in-Ok-clause-rung g c).In-None) in
    c.in-Ok.ensures.rung
    ∙ ap (λ n. others_more_where (now.gates == n + 1) c.args.stand.now.worker c.args.job.now.workers c.args.stand.now.wakes) none

pub returns-in-Err-clause-rung : goal.returns-in-Err-clause-rung
returns-in-Err-clause-rung g c awake =
    let left = c.in-Err.ensures.left 0 in
    absurd (none-or c.sweep_and_rest.new.taker.pass.spent left.spent.0 left.spent.1 (subst (λ (w : Worker _ _). w.pass.spent ≡ None) c.keep.ensures.same awake))

pub returns-in-Some-clause-rung : goal.returns-in-Some-clause-rung
returns-in-Some-clause-rung g c awake =
    absurd (none-or c.args.desk.now.worker.worker.pass.spent c.in-Some.field-0 (sym c.in-Some.ensures) awake)

-- it sends nothing from then on
pub returns-in-Ok-clause-unsent : goal.returns-in-Ok-clause-unsent
returns-in-Ok-clause-unsent g c awake =
    (sym c.in-None.ensures, taken-sends c.args.desk.now.worker.worker.pass c.sweep_and_rest.new.taker.pass c.in-Ok.ensures.taken)

pub returns-in-Err-clause-unsent : goal.returns-in-Err-clause-unsent
returns-in-Err-clause-unsent g c awake =
    let left = c.in-Err.ensures.left 0 in
    absurd (none-or c.sweep_and_rest.new.taker.pass.spent left.spent.0 left.spent.1 (subst (λ (w : Worker _ _). w.pass.spent ≡ None) c.keep.ensures.same awake))

pub returns-in-Ok-clause-number : goal.returns-in-Ok-clause-number
returns-in-Ok-clause-number g c =
    ap (λ (p : PassStanding _). p.number) c.in-Ok.ensures.taken.pass

pub returns-in-Err-clause-run : goal.returns-in-Err-clause-run
returns-in-Err-clause-run g c =
    late-out c.args.queue.now c.args.job.now g.S.Source c.args.desk.now.files.items c.args.desk.now.worker.worker
    c.sweep_and_rest.new.taker c.args.desk.now.worker.kept (sweeps g (goal.at.returns-in-Err-clause-run g c).In-None)
    c.keep.new.self c.in-Err.at_limit.held c.in-Err.ensures.left c.keep.ensures.same c.keep.ensures.kept

pub returns-in-Err-clause-waited : goal.returns-in-Err-clause-waited
returns-in-Err-clause-waited g c =
    let contents = bytes_of in
    let all = length c.args.job.now.topics + 1 in
    let rests = c.sweep_and_rest.new.stand.rests in
    let left = c.in-Err.ensures.left 0 in
    let behind = takes_behind c.args.job.now.most in
    subst (λ (w : Worker _ _). HasWaited contents all behind rests w.pass) (sym c.keep.ensures.same)
    (waited-spent contents all behind rests left.spent.0 c.sweep_and_rest.new.taker.pass left.spent.1)

pub returns-in-Err-clause-number : goal.returns-in-Err-clause-number
returns-in-Err-clause-number g c =
    ap (λ (w : Worker _ _). w.pass.number) c.keep.ensures.same ∙ (c.in-Err.ensures.left 0).own.1
