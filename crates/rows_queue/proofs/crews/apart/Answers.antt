use denote.Param.Send.{IsSend, IsSync, sendable, param_send}
use Rattle.scq_park.proofs.Crossing.{stand_sent, crew_sync}
use Rattle.rows_queue.proofs.crews.apart.Lts.{arg-0-1}
use Rattle.rows_queue.proofs.crews.apart.Goals as goal

pub join-requires-send-F : goal.join-requires-send-F
join-requires-send-F g c κs within =
    let row = arg-0-1 g.row.R g.R.laws g.R.Threads-dict g.R.Wait-dict κs in
    let runtime : IsSync g.row.R = record { shared = c.type_bounds.sync-R.shared } in
    let here : IsSend row = search (sendable, stand_sent, crew_sync) depth 20 in
    param_send 1 row here
