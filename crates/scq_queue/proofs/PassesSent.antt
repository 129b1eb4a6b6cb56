-- A pass may be sent to another thread where the buffers may, and a note may.
use denote.RattleType.{RattleType}
use denote.Builtin.{u8, bool}
use denote.Param.Send.{IsSend, sendable, view_send}
use denote.Param.SendFields.{declared_send}
use Rattle.scq_word.specs.declared.buffer.Buffer.{Ghosts}
use Rattle.atomic_table.proofs.badge.Badge.TheSendSync as badge
use Rattle.scq_band.specs.contracts.view.View as view
use Rattle.scq_band.specs.contracts.band_note.BandNote as band_note
use Rattle.scq_band.specs.contracts.band_note.BandNote.TheInside as band_note_inside
use Rattle.scq_band.proofs.SeatsSent.{snapshot_sent, vec_sent, u64_sent, seat_sent}
use Rattle.scq_queue.specs.contracts.counts.Counts as counts
use Rattle.scq_queue.specs.contracts.fulls.Fulls as fulls
use Rattle.scq_queue.specs.contracts.heap_buffer.HeapBuffer as heap_buffer
use Rattle.scq_queue.specs.contracts.notes.Note as note
use Rattle.scq_queue.specs.contracts.notes.Note.TheInside as note_inside
use Rattle.scq_queue.specs.contracts.pass.Pass as pass
use Rattle.scq_queue.specs.contracts.pass.Pass.TheInside as pass_inside

pub bool_sent : IsSend bool
bool_sent = search sendable

pub counts_sent : IsSend counts.the_row
counts_sent = declared_send counts.the_type (u64_sent, (u64_sent, (u64_sent, tt)))

pub pass_sent : (B P : RattleType) (buffer : Ghosts B.Denot P.Denot) → IsSend P → IsSend (pass.the_row B P buffer)
pass_sent B P buffer sends =
    view_send (pass_inside.the_row B P buffer) _ _ _ _
    (declared_send (pass_inside.the_type B P buffer) (seat_sent B P buffer sends, (snapshot_sent fulls.the_row, (counts_sent, (bool_sent, tt)))))

-- what a pass tells another may
band_note_sent : IsSend band_note.the_row
band_note_sent =
    view_send band_note_inside.the_row _ _ _ _
    (declared_send band_note_inside.the_type (badge.the_send view.the_row, (search sendable, (search sendable depth 20, tt))))

pub note_sent : IsSend note.the_row
note_sent = view_send note_inside.the_row _ _ _ _ (declared_send note_inside.the_type (band_note_sent, tt))

-- a buffer on the heap may
pub heap_buffer_sent : IsSend heap_buffer.the_row
heap_buffer_sent = declared_send heap_buffer.the_type (vec_sent u8 (search sendable), tt)
