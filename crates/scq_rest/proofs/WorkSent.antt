-- What the thread of a worker is given, and hands back, may be sent to another thread, where sources may.
use denote.RattleType.{RattleType}
use denote.Builtin.{bool}
use denote.Param.Send.{IsSend, sendable, view_send}
use denote.Param.SendFields.{as_row_send, declared_send, variants_send}
use denote.Struct.Field.{row_field}
use Rattle.scq_word.specs.declared.buffer.Buffer.{Ghosts as BufferGhosts}
use Rattle.scq_block.specs.contracts.frame.Frame as frame
use Rattle.scq_block.specs.contracts.frame.FrameBuffer.TheImpl as frames
use Rattle.scq_block.proofs.FramesSent.{frame_sent}
use Rattle.scq_band.specs.contracts.seat.Seat as seat
use Rattle.scq_band.proofs.SeatsSent.{snapshot_sent, vec_sent, u32_sent, option_sent}
use Rattle.scq_collect.proofs.answers.Answers.TheSendSync as answers
use Rattle.scq_frames.specs.contracts.batch.Batch as batch
use Rattle.scq_frames.proofs.batch.Batch.TheSendSync as batches
use Rattle.scq_park.proofs.Crossing.{stand_sent}
use Rattle.std.specs.contracts.option.Option as option
use Rattle.scq_queue.specs.contracts.held.Held as held
use Rattle.scq_queue.specs.contracts.held.Held.TheInside as held_inside
use Rattle.scq_queue.proofs.PassesSent.{pass_sent}
use Rattle.scq_files.specs.contracts.given.Given as given
use Rattle.scq_files.proofs.own_file.FileEnd.TheSendSync as file_ends
use Rattle.scq_files.specs.contracts.own_file.OwnFile as own_file
use Rattle.scq_worker.specs.contracts.worker.Worker as worker
use Rattle.scq_files.specs.contracts.desk.Desk as desk
use Rattle.scq_desk.specs.contracts.seat.Seat as place
use Rattle.scq_rest.specs.contracts.threads.Work as work
use Rattle.scq_rest.specs.contracts.threads.HandedBack as end

bool_sent : IsSend bool
bool_sent = search sendable

held_sent : (B P : RattleType) (buffer : BufferGhosts B.Denot P.Denot) → IsSend B → IsSend (held.the_row B P buffer)
held_sent B P buffer sends =
    view_send (held_inside.the_row B P buffer) _ _ _ _
    (declared_send (held_inside.the_type B P buffer) (u32_sent, (as_row_send (row_field B) sends, (snapshot_sent (seat.the_row B P buffer), tt))))

own_file_sent : (S : RattleType) → IsSend S → IsSend (own_file.the_row S)
own_file_sent S sends =
    declared_send (own_file.the_type S) (u32_sent, (as_row_send (row_field S) sends, (snapshot_sent S, (snapshot_sent given.the_row, (file_ends.the_send, tt)))))

worker_sent : (B P : RattleType) (buffer : BufferGhosts B.Denot P.Denot) → IsSend P → IsSend (worker.the_row B P buffer)
worker_sent B P buffer sends =
    declared_send (worker.the_type B P buffer)
    (u32_sent, (pass_sent B P buffer sends, (vec_sent batch.the_row batches.the_send, (answers.the_send, (bool_sent, tt)))))

place_sent : (W B P : RattleType) (buffer : BufferGhosts B.Denot P.Denot) → IsSend W → IsSend B → IsSend (place.the_row W B P buffer)
place_sent W B P buffer worker_sends sends =
    declared_send (place.the_type W B P buffer)
    (as_row_send (row_field W) worker_sends, (option_sent (held.the_row B P buffer) (held_sent B P buffer sends), tt))

desk_sent : (W S : RattleType) → IsSend W → IsSend S → IsSend (desk.the_row W S)
desk_sent W S sends source_sends =
    declared_send (desk.the_type W S) (as_row_send (row_field W) sends, (vec_sent (own_file.the_row S) (own_file_sent S source_sends), tt))

-- where a frame of a block stands; a worker of such frames, and its seat
abbrev slot_row : RattleType
slot_row = option.the_row frame.the_row

abbrev its_row : RattleType
its_row = worker.the_row frame.the_row slot_row frames.ghosts

pub work_sent : (S : RattleType) → IsSend S → IsSend (work.the_row S)
work_sent S sends =
    declared_send (work.the_type S) (
      desk_sent (place.the_row its_row frame.the_row slot_row frames.ghosts) S
          (place_sent its_row frame.the_row slot_row frames.ghosts (worker_sent frame.the_row slot_row frames.ghosts (option_sent frame.the_row frame_sent)) frame_sent) sends,
      (stand_sent, tt),
    )

pub end_sent : (S : RattleType) → IsSend S → IsSend (end.the_row S)
end_sent S sends = variants_send (end.enum S) ((work_sent S sends, tt), ((work_sent S sends, tt), tt))
