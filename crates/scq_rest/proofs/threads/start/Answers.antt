use denote.Exit.{no}
use denote.Param.{param}
use denote.Param.Send.{IsSend, IsSync, sendable, param_send, arg_send, shr_send}
use denote.Param.SendFields.{as_row_send, declared_send}
use denote.RattleType.{RattleType}
use denote.Struct.Field.{row_field}
use denote.Struct.Tuple.{TupleAt, type_at}
use mir.Syntax.{Sym, named}
use Rattle.std.proofs.Common.{[], ◌∷◌}
use Rattle.std.proofs.Crossing as crossing
use Rattle.scq_block.proofs.FramesSent.{frame_sent, frame_shared}
use Rattle.scq_block.specs.contracts.frame.Frame as frame
use Rattle.scq_block.specs.contracts.frame.FrameBuffer.TheImpl as buffer
use Rattle.std.specs.contracts.sync.atomic.AtomicBool as flag
use Rattle.scq_park.proofs.Crossing.{crew_sync}
use Rattle.scq_park.specs.contracts.crew.Crew as crew
use Rattle.std.specs.contracts.option.Option as option
use Rattle.scq_band.proofs.SeatsSent.{option_sent}
use Rattle.scq_queue.specs.contracts.queue.Queue as queue
use Rattle.scq_queue.proofs.QueuesShared.{queue_sync}
use Rattle.scq_worker.specs.contracts.job.Job as job
use Rattle.scq_rest.specs.contracts.threads.Work as work
use Rattle.scq_rest.specs.contracts.threads.HandedBack as end
use Rattle.scq_worker.proofs.job.Job.TheSendSync as jobs
use Rattle.scq_rest.proofs.WorkSent.{work_sent, end_sent}
use Rattle.scq_rest.proofs.threads.start.Lts.{arg-1-2, arg-1-3}
use Rattle.scq_rest.proofs.threads.start.Goals as goal

queue_shared : IsSync (queue.the_row frame.the_row (option.the_row frame.the_row) buffer.ghosts)
queue_shared = queue_sync frame.the_row (option.the_row frame.the_row) buffer.ghosts (option_sent frame.the_row frame_sent) frame_shared

-- a closure may be sent where each of its eight captures may
closure_sent : (name : Sym) (A B C D E F G H : RattleType) → IsSend A → IsSend B → IsSend C → IsSend D → IsSend E → IsSend F → IsSend G → IsSend H
    → IsSend (TupleAt name (A ∷ B ∷ C ∷ D ∷ E ∷ F ∷ G ∷ H ∷ []))
closure_sent name A B C D E F G H a b c d e f g h =
    declared_send (type_at name (A ∷ B ∷ C ∷ D ∷ E ∷ F ∷ G ∷ H ∷ [])) (
      as_row_send (row_field A) a,
      (
        as_row_send (row_field B) b,
        (
          as_row_send (row_field C) c,
          (
            as_row_send (row_field D) d,
            (as_row_send (row_field E) e, (as_row_send (row_field F) f, (as_row_send (row_field G) g, (as_row_send (row_field H) h, tt)))),
          ),
        ),
      ),
    )

pub spawn_with-requires-send-F : goal.spawn_with-requires-send-F
spawn_with-requires-send-F g c κs within =
    let row =
    arg-1-2 g.row.E g.row.R g.row.S g.row.G g.E.laws g.R.laws g.S.laws g.G.laws g.R.Threads g.R.Threads-dict g.R.Wait g.R.Wait-dict g.S.Source g.S.Source-dict g.G.Gate g.G.Gate-dict
    g.S.Destruct-dict κs in
    let its_job : IsSync job.the_row = jobs.the_sync in
    let its_gate : IsSync (param 3 g.row.G) = c.type_bounds.sync-G in
    let its_rt : IsSync (param 1 g.row.R) = c.type_bounds.sync-R in
    let its_work : IsSend (work.the_row (param 2 g.row.S)) = work_sent (param 2 g.row.S) c.type_bounds.send-S in
    let its_flag : IsSync flag.the_row = search (sendable, crossing.crosses) depth 20 in
    let here : IsSend row =
    arg_send _ no _
    (closure_sent _ _ _ _ _ _ _ _ _ (shr_send (named 6) κs.1.1.1.1.1.1.0 (param 1 g.row.R) its_rt) crossing.send
    (shr_send (named 7) κs.1.1.1.1.1.1.1.0 job.the_row its_job)
    (shr_send (named 8) κs.1.1.1.1.1.1.1.1.0 (queue.the_row frame.the_row (option.the_row frame.the_row) buffer.ghosts) queue_shared)
    (shr_send (named 9) κs.1.1.1.1.1.1.1.1.1.0 (param 3 g.row.G) its_gate) (shr_send (named 10) κs.1.1.1.1.1.1.1.1.1.1.0 crew.the_row crew_sync)
    (shr_send (named 11) κs.1.1.1.1.1.1.1.1.1.1.1.0 flag.the_row its_flag) its_work) in
    param_send 2 row here

pub spawn_with-requires-send-T : goal.spawn_with-requires-send-T
spawn_with-requires-send-T g c κs within =
    let row =
    arg-1-3 g.row.E g.row.R g.row.S g.row.G g.E.laws g.R.laws g.S.laws g.G.laws g.R.Threads g.R.Threads-dict g.R.Wait g.R.Wait-dict g.S.Source g.S.Source-dict g.G.Gate g.G.Gate-dict
    g.S.Destruct-dict κs in
    let its_end : IsSend (end.the_row (param 2 g.row.S)) = end_sent (param 2 g.row.S) c.type_bounds.send-S in
    let here : IsSend row = search (sendable, its_end) depth 20 in
    param_send 3 row here
