use Rattle.std.proofs.Common.{sym, [], ◌∷◌}
use Rattle.std.proofs.lemmas.List.{append-nil}
use Rattle.scq_frames.specs.Exports.{all_parts}
use Rattle.scq_worker.specs.Exports.{parts_in}
use Rattle.scq_worker.proofs.Going.{told-gathered, told-stopped}
use Rattle.scq_worker.proofs.worker.reading.WorkerFrameHandlerCalls.handle.Goals as goal

pub returns-clause-handled : goal.returns-clause-handled
returns-clause-handled g c =
    let job = c.args.with.now.job.now in
    let m = c.args.message.now in
    let its = c.pass_on.ensures in
    told-gathered c.args.with.now.queue.now job c.pass_on.result (all_parts job.size m) (parts_in job.size (m ∷ [])) c.args.self.now c.pass_on.new.self
    (g.W.Bell.seen c.args.beside.now) (g.W.Bell.seen c.pass_on.new.stand)
    (g.W.Bell.seen c.args.beside.now) (g.W.Bell.seen c.pass_on.new.stand) (sym (append-nil (all_parts job.size m))) its.gathered its.still

pub returns-clause-stopped : goal.returns-clause-stopped
returns-clause-stopped g c =
    let job = c.args.with.now.job.now in
    let m = c.args.message.now in
    let its = c.pass_on.ensures in
    told-stopped c.args.with.now.queue.now job (λ l. l.held) c.pass_on.result (all_parts job.size m) (parts_in job.size (m ∷ [])) c.args.self.now c.pass_on.new.self
    (g.W.Bell.seen c.args.beside.now) (g.W.Bell.seen c.pass_on.new.stand) (sym (append-nil (all_parts job.size m))) its.left its.still
