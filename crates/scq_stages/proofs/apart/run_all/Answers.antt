use Rattle.std.proofs.Common.{◌≡◌, subst, arith, None}
use denote.Param.Send.{IsSync, param_sync}
use Rattle.std.proofs.Crossing as crossing
use Rattle.scq_block.specs.Exports.{bytes_of}
use Rattle.scq_block.specs.declared.frame.Frame.{Frame}
use Rattle.scq_passes.specs.Exports.{HasLeftSwept, IsGivenBack}
use Rattle.scq_files.specs.declared.desk.Desk.{Desk}
use Rattle.scq_stages.specs.Exports.{Seated}
use Rattle.scq_block.proofs.FramesSent.{frame_sent, frame_shared}
use Rattle.scq_block.specs.contracts.frame.Frame as frame
use Rattle.scq_block.specs.contracts.frame.FrameBuffer.TheImpl as buffer
use Rattle.std.specs.contracts.option.Option as option
use Rattle.scq_band.proofs.SeatsSent.{option_sent}
use Rattle.scq_queue.specs.contracts.queue.Queue as queue
use Rattle.scq_queue.proofs.QueuesShared.{queue_sync}
use Rattle.scq_stages.specs.contracts.job.StageJob as job
use Rattle.scq_stages.proofs.job.StageJob.TheSendSync as jobs
use Rattle.scq_stages.proofs.apart.run_all.Lts.{arg-0-2}
use Rattle.scq_stages.proofs.apart.run_all.Goals as goal

queue_shared : IsSync (queue.the_row frame.the_row (option.the_row frame.the_row) buffer.ghosts)
queue_shared = queue_sync frame.the_row (option.the_row frame.the_row) buffer.ghosts (option_sent frame.the_row frame_sent) frame_shared

-- what the closure borrows may be shared: the allocator, the job and the queue
pub work_apart-requires-sync-F : goal.work_apart-requires-sync-F
work_apart-requires-sync-F g c κs within =
    let row = arg-0-2 g.row.R g.row.S g.R.laws g.S.laws g.R.Threads-dict g.S.Source-dict g.S.Destruct-dict κs in
    let memory = crossing.sync in
    let its_job : IsSync job.the_row = jobs.the_sync in
    let here : IsSync row =
    record {
      shared = λ x b o κ. (
        (
          ((λ q. tt), memory.shared _ _ _ κ),
          (((λ q. tt), its_job.shared x.1.now _ _ κ), (((λ q. tt), queue_shared.shared _ _ _ _), tt)),
        ),
        λ q. tt,
      );
    } in
    param_sync 2 row here

pub returns-clause-behind : goal.returns-clause-behind
returns-clause-behind g c k d less awake =
    let S = g.row.S.Denot in
    let at = (c.work_apart.ensures.each k d (omega (arith, less, c.work_apart.ensures.count))).1 in
    let P : Desk (Seated Frame _) S → Type 0 = λ e. e.worker.worker.pass.spent ≡ None
    → HasLeftSwept bytes_of IsGivenBack 2 64 e.worker.worker.pass in
    subst P at.left at.call.3 awake
