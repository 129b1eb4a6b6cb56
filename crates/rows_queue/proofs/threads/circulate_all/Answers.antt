use denote.Exit.{yes}
use denote.Param.Send.{IsSend, param_send, arg_send}
use Rattle.std.specs.contracts.option.Option as option
use Rattle.scq_queue.specs.contracts.heap_buffer.HeapBuffer as heap
use Rattle.scq_queue.specs.contracts.heap_buffer.HeapBufferBuffer.TheImpl as buffer
use Rattle.scq_queue.proofs.PassesSent.{heap_buffer_sent}
use Rattle.scq_band.proofs.SeatsSent.{option_sent, seat_sent}
use Rattle.rows_queue.proofs.threads.circulate_all.Lts.{arg-0-1, arg-0-2}
use Rattle.rows_queue.proofs.threads.circulate_all.Goals as goal

pub map_vec-requires-send-J : goal.map_vec-requires-send-J
map_vec-requires-send-J g c κs within =
    let row = arg-0-1 g.row.R g.R.laws g.R.Threads-dict κs in
    let here : IsSend row = arg_send _ yes _ (seat_sent heap.the_row (option.the_row heap.the_row) buffer.ghosts (option_sent heap.the_row heap_buffer_sent)) in
    param_send 1 row here

pub map_vec-requires-send-X : goal.map_vec-requires-send-X
map_vec-requires-send-X g c κs within =
    let row = arg-0-2 g.row.R g.R.laws g.R.Threads-dict κs in
    let here : IsSend row = arg_send _ yes _ (seat_sent heap.the_row (option.the_row heap.the_row) buffer.ghosts (option_sent heap.the_row heap_buffer_sent)) in
    param_send 2 row here
