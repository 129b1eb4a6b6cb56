-- A queue may be shared by threads where its buffers may be sent and shared.
use denote.RattleType.{RattleType}
use denote.Builtin.{u8, u64, bool}
use denote.Param.Send.{IsSend, IsSync, sendable, view_sync}
use denote.Param.SendFields.{declared_sync}
use Rattle.scq_word.specs.declared.buffer.Buffer.{Ghosts}
use Rattle.scq_band.specs.contracts.seat.Seat as seat
use Rattle.scq_band.proofs.SeatsShared.{vec_sync, seat_sync, band_sync}
use Rattle.scq_queue.specs.contracts.counts.Counts as counts
use Rattle.scq_queue.specs.contracts.heap_buffer.HeapBuffer as heap_buffer
use Rattle.scq_queue.specs.contracts.queue.Queue as queue
use Rattle.scq_queue.specs.contracts.queue.Queue.TheInside as queue_inside

pub u64_sync : IsSync u64
u64_sync = search sendable

pub bool_sync : IsSync bool
bool_sync = search sendable

pub counts_sync : IsSync counts.the_row
counts_sync = declared_sync counts.the_type (u64_sync, (u64_sync, (u64_sync, tt)))

pub queue_sync : (B P : RattleType) (buffer : Ghosts B.Denot P.Denot) → IsSend P → IsSync B → IsSync (queue.the_row B P buffer)
queue_sync B P buffer sends shares =
    view_sync (queue_inside.the_row B P buffer) _ _ _ _
    (declared_sync (queue_inside.the_type B P buffer) (
      band_sync B P buffer sends shares,
      (vec_sync (seat.the_row B P buffer) (seat_sync B P buffer sends), (vec_sync counts.the_row counts_sync, (vec_sync bool bool_sync, tt))),
    ))

-- a buffer on the heap may be shared
pub heap_buffer_sync : IsSync heap_buffer.the_row
heap_buffer_sync = declared_sync heap_buffer.the_type (vec_sync u8 (search sendable), tt)
