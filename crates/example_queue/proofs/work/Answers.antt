use denote.Param.Send.{IsSend, sendable, param_send}
use Rattle.std.specs.contracts.option.Option as option
use Rattle.scq_band.proofs.SeatsSent.{option_sent}
use Rattle.scq_queue.specs.contracts.heap_buffer.HeapBuffer as heap
use Rattle.scq_queue.specs.contracts.heap_buffer.HeapBufferBuffer.TheImpl as buffer
use Rattle.scq_queue.proofs.PassesSent.{pass_sent, heap_buffer_sent}
use Rattle.scq_queue.proofs.QueuesShared.{queue_sync, heap_buffer_sync}
use Rattle.example_queue.proofs.work.Lts.{arg-0-1}
use Rattle.example_queue.proofs.work.Goals as goal

pub join-requires-send-F : goal.join-requires-send-F
join-requires-send-F g c κs within =
    let row = arg-0-1 g.row.R g.R.laws g.R.Threads-dict κs in
    let sent = pass_sent heap.the_row (option.the_row heap.the_row) buffer.ghosts (option_sent heap.the_row heap_buffer_sent) in
    let shared = queue_sync heap.the_row (option.the_row heap.the_row) buffer.ghosts (option_sent heap.the_row heap_buffer_sent) heap_buffer_sync in
    let here : IsSend row = search sendable in
    param_send 1 row here
