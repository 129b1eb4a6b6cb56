-- A port may go to another thread: so may its pass and its values, and the queue may go and be shared; and buffers may go and be shared.
use denote.Builtin.{u32, u64, usize, bool}
use denote.RattleType.{RattleType}
use denote.Param.Send.{IsSend, IsSync, array_send, sendable, view_send, view_sync}
use denote.Param.SendFields.{declared_send, declared_sync}
use Rattle.std.proofs.Crossing as crossing
use Rattle.std.proofs.alloc.Global.TheSendSync as heap
use Rattle.std.specs.contracts.alloc.Global as alloc
use Rattle.std.specs.contracts.option.Option as option
use Rattle.std.specs.contracts.vec.Vec as vec
use Rattle.std.specs.contracts.impls.GlobalAllocator.TheImpl.{ghosts}
use Rattle.atomic_table.proofs.shared.Shared.TheSendSync as words
use Rattle.atomic_table.proofs.send_lease.SendLease.TheSendSync as lease
use Rattle.atomic_table.specs.contracts.owned.Table as table
use Rattle.scq_word.specs.contracts.setup.Setup as setup
use Rattle.scq_band.specs.contracts.rule.Key as key
use Rattle.scq_band.specs.contracts.rule.Rule as rule
use Rattle.scq_band.specs.contracts.rule.RuleTableRuleSlotViewKey.TheImpl as rules
use Rattle.scq_band.specs.contracts.slot.Slot as slot
use Rattle.scq_band.specs.contracts.view.View as view
use Rattle.scq_band.specs.contracts.ring.Ring as ring
use Rattle.scq_band.specs.contracts.band.Band as band
use Rattle.scq_band.specs.contracts.band.Band.TheInside as band_inside
use Rattle.scq_band.specs.contracts.seat.Seat as seat
use Rattle.scq_band.proofs.SeatsSent.{snapshot_sent, vec_sent, u32_sent, u64_sent, option_sent, slot_sent, seat_sent}
use Rattle.scq_queue.specs.contracts.counts.Counts as counts
use Rattle.scq_queue.specs.contracts.held.Held as held
use Rattle.scq_queue.specs.contracts.held.Held.TheInside as held_inside
use Rattle.scq_queue.specs.contracts.queue.Queue as queue
use Rattle.scq_queue.specs.contracts.queue.Queue.TheInside as queue_inside
use Rattle.scq_queue.proofs.PassesSent.{bool_sent, counts_sent, pass_sent}
use Rattle.scq_queue.proofs.QueuesShared.{bool_sync, counts_sync, queue_sync}
use Rattle.scq_band.proofs.SeatsShared.{vec_sync, seat_sync}
use Rattle.std.specs.contracts.snapshot.Snapshot as snapshot
use Rattle.scq_queue.specs.contracts.fulls.Fulls as fulls
use Rattle.scq_queue.specs.contracts.pass.Pass as pass
use Rattle.scq_queue.specs.contracts.pass.Pass.TheInside as pass_inside
use Rattle.scq_port.specs.contracts.ends.Ends as ends
use Rattle.scq_port.specs.contracts.ends.Knows as knows
use Rattle.scq_port.specs.contracts.ends.EndRule as end_rule
use Rattle.scq_port.specs.contracts.ends.EndRuleTableRuleOptionLeavingKnowsSnapshotQueuePortBuffer.TheImpl as end_rules
use Rattle.scq_port.specs.contracts.port_buffer.PortBuffer as buffer
use Rattle.scq_port.specs.contracts.port_buffer.PortPlace as place
use Rattle.scq_port.specs.contracts.port_buffer.PortBufferBuffer.TheImpl as buffers
use Rattle.scq_port.specs.contracts.hand.Hand as hand
use Rattle.scq_port.specs.contracts.leaving.Leaving as leaving
use Rattle.scq_port.specs.contracts.leaving.Leaving.TheInside as leaving_inside
use Rattle.scq_port.specs.contracts.owner.Owner as owner
use Rattle.scq_port.specs.contracts.port.Port as port
use Rattle.scq_port.specs.contracts.port.Port.TheInside as port_inside

usize_sent : IsSend usize
usize_sent = search sendable

pub buffer_sent : IsSend buffer.the_row
buffer_sent = search (sendable, crossing.crosses) depth 20

pub buffer_sync : IsSync buffer.the_row
buffer_sync = search (sendable, crossing.crosses) depth 20

place_sent : IsSend place.the_row
place_sent = search (sendable, crossing.crosses) depth 20

setup_sent : IsSend setup.the_row
setup_sent = search (sendable, crossing.crosses) depth 20

ring_sent : IsSend ring.the_row
ring_sent = search (sendable, crossing.crosses) depth 20

table_sent : (T V K R : RattleType) (g : _) → IsSend T → IsSend (table.the_row T V K R alloc.the_row g ghosts)
table_sent T V K R g sends =
    declared_send (table.the_type T V K R alloc.the_row g ghosts) (
      words.the_send T V K R g sends,
      (
        usize_sent,
        (
          usize_sent,
          (
            lease.the_send u64 alloc.the_row ghosts heap.the_send crossing.frees,
            (lease.the_send T alloc.the_row ghosts heap.the_send crossing.frees, (heap.the_send, tt)),
          ),
        ),
      ),
    )

band_sent : IsSend (band.the_row buffer.the_row place.the_row buffers.ghosts)
band_sent =
    view_send (band_inside.the_row buffer.the_row place.the_row buffers.ghosts) _ _ _ _
    (declared_send (band_inside.the_type buffer.the_row place.the_row buffers.ghosts) (
      table_sent (slot.the_row buffer.the_row place.the_row buffers.ghosts) view.the_row (key.the_row buffer.the_row) rule.the_row (rules.ghosts buffer.the_row place.the_row buffers.ghosts rules.no_dict)
          (slot_sent buffer.the_row place.the_row buffers.ghosts place_sent),
      (setup_sent, (vec_sent ring.the_row ring_sent, (vec_sent buffer.the_row buffer_sent, (vec_sent u64 u64_sent, tt)))),
    ))

queue_sent : IsSend (queue.the_row buffer.the_row place.the_row buffers.ghosts)
queue_sent =
    view_send (queue_inside.the_row buffer.the_row place.the_row buffers.ghosts) _ _ _ _
    (declared_send (queue_inside.the_type buffer.the_row place.the_row buffers.ghosts) (
      band_sent,
      (
        vec_sent (seat.the_row buffer.the_row place.the_row buffers.ghosts) (seat_sent buffer.the_row place.the_row buffers.ghosts place_sent),
        (vec_sent counts.the_row counts_sent, (vec_sent bool bool_sent, tt)),
      ),
    ))

usize_sync : IsSync usize
usize_sync = search sendable

held_sent : IsSend (held.the_row buffer.the_row place.the_row buffers.ghosts)
held_sent =
    view_send (held_inside.the_row buffer.the_row place.the_row buffers.ghosts) _ _ _ _
    (declared_send (held_inside.the_type buffer.the_row place.the_row buffers.ghosts) (
      u32_sent,
      (buffer_sent, (snapshot_sent (seat.the_row buffer.the_row place.the_row buffers.ghosts), tt)),
    ))

values_sent : IsSend (vec.the_row (option.the_row (held.the_row buffer.the_row place.the_row buffers.ghosts)) alloc.the_row ghosts)
values_sent = vec_sent (option.the_row (held.the_row buffer.the_row place.the_row buffers.ghosts)) (option_sent (held.the_row buffer.the_row place.the_row buffers.ghosts) held_sent)

leaving_sent : IsSend leaving.the_row
leaving_sent =
    view_send leaving_inside.the_row _ _ _ _
    (declared_send leaving_inside.the_type (pass_sent buffer.the_row place.the_row buffers.ghosts place_sent, (values_sent, tt)))

left_sent : IsSend (option.the_row leaving.the_row)
left_sent = option_sent leaving.the_row leaving_sent

end_table_sync : IsSync (table.the_row (option.the_row leaving.the_row) knows.the_row (snapshot.the_row (queue.the_row buffer.the_row place.the_row buffers.ghosts)) end_rule.the_row alloc.the_row end_rules.ghosts ghosts)
end_table_sync =
    declared_sync (table.the_type (option.the_row leaving.the_row) knows.the_row (snapshot.the_row (queue.the_row buffer.the_row place.the_row buffers.ghosts)) end_rule.the_row alloc.the_row end_rules.ghosts ghosts) (
      words.the_sync (option.the_row leaving.the_row) knows.the_row (snapshot.the_row (queue.the_row buffer.the_row place.the_row buffers.ghosts)) end_rule.the_row end_rules.ghosts left_sent,
      (
        usize_sync,
        (
          usize_sync,
          (
            lease.the_sync u64 alloc.the_row ghosts heap.the_send crossing.frees,
            (lease.the_sync (option.the_row leaving.the_row) alloc.the_row ghosts heap.the_send crossing.frees, (heap.the_sync, tt)),
          ),
        ),
      ),
    )

fulls_sync : IsSync (snapshot.the_row fulls.the_row)
fulls_sync = search (sendable, crossing.crosses)

pass_sync : IsSync (pass.the_row buffer.the_row place.the_row buffers.ghosts)
pass_sync =
    view_sync (pass_inside.the_row buffer.the_row place.the_row buffers.ghosts) _ _ _ _
    (declared_sync (pass_inside.the_type buffer.the_row place.the_row buffers.ghosts)
    (seat_sync buffer.the_row place.the_row buffers.ghosts place_sent, (fulls_sync, (counts_sync, (bool_sync, tt)))))

snapshot_sync : (Y : RattleType) → IsSync (snapshot.the_row Y)
snapshot_sync Y = search (sendable, crossing.crosses)

u32_sync : IsSync u32
u32_sync = search sendable

held_sync : IsSync (held.the_row buffer.the_row place.the_row buffers.ghosts)
held_sync =
    view_sync (held_inside.the_row buffer.the_row place.the_row buffers.ghosts) _ _ _ _
    (declared_sync (held_inside.the_type buffer.the_row place.the_row buffers.ghosts) (
      u32_sync,
      (buffer_sync, (snapshot_sync (seat.the_row buffer.the_row place.the_row buffers.ghosts), tt)),
    ))

ends_sent : IsSend ends.the_row
ends_sent =
    declared_send ends.the_type (
      table_sent (option.the_row leaving.the_row) knows.the_row (snapshot.the_row (queue.the_row buffer.the_row place.the_row buffers.ghosts)) end_rule.the_row end_rules.ghosts left_sent,
      tt,
    )

ends_sync : IsSync ends.the_row
ends_sync = declared_sync ends.the_type (end_table_sync, tt)

owner_sent : IsSend owner.the_row
owner_sent =
    declared_send owner.the_type (
      queue_sent,
      (
        ends_sent,
        (
          vec_sent (pass.the_row buffer.the_row place.the_row buffers.ghosts) (pass_sent buffer.the_row place.the_row buffers.ghosts place_sent),
          (vec_sent (held.the_row buffer.the_row place.the_row buffers.ghosts) held_sent, (heap.the_send, tt)),
        ),
      ),
    )

owner_sync : IsSync owner.the_row
owner_sync =
    declared_sync owner.the_type (
      queue_sync buffer.the_row place.the_row buffers.ghosts place_sent buffer_sync,
      (
        ends_sync,
        (
          vec_sync (pass.the_row buffer.the_row place.the_row buffers.ghosts) pass_sync,
          (vec_sync (held.the_row buffer.the_row place.the_row buffers.ghosts) held_sync, (heap.the_sync, tt)),
        ),
      ),
    )

hand_sent : IsSend hand.the_row
hand_sent = declared_send hand.the_type (values_sent, (u32_sent, (u32_sent, tt)))

pub port_sent : IsSend port.the_row
port_sent =
    view_send port_inside.the_row _ _ _ _
    (declared_send port_inside.the_type (
      array_send u64 16 u64_sent,
      (
        crossing.Arc-send owner.the_row owner_sent owner_sync,
        (pass_sent buffer.the_row place.the_row buffers.ghosts place_sent, (hand_sent, (u32_sent, (u32_sent, (u32_sent, (bool_sent, (array_send u64 16 u64_sent, tt))))))),
      ),
    ))
