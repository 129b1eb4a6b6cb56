use Rattle.std.proofs.Common.{refl, []}
use Rattle.scq_worker.proofs.Going.{told-gathered, told-stopped}
use Rattle.scq_worker.proofs.worker.reading.WorkerFrameHandlerCalls.pause.Goals as goal

pub returns-clause-handled : goal.returns-clause-handled
returns-clause-handled g c =
    let job = c.args.with.now.job.now in
    let its = c.pass_all_open.ensures in
    told-gathered c.args.with.now.queue.now job c.pass_all_open.result [] [] c.args.self.now c.pass_all_open.new.self
    (g.W.Bell.seen c.args.beside.now) (g.W.Bell.seen c.pass_all_open.new.stand)
    (g.W.Bell.seen c.args.beside.now) (g.W.Bell.seen c.pass_all_open.new.stand) refl its.gathered its.still

pub returns-clause-stopped : goal.returns-clause-stopped
returns-clause-stopped g c =
    let job = c.args.with.now.job.now in
    let its = c.pass_all_open.ensures in
    told-stopped c.args.with.now.queue.now job (λ l. l.held) c.pass_all_open.result [] [] c.args.self.now c.pass_all_open.new.self
    (g.W.Bell.seen c.args.beside.now) (g.W.Bell.seen c.pass_all_open.new.stand) refl its.left its.still
