use Rattle.std.proofs.Common.{refl, ◌∙◌, ap}
use Rattle.std.specs.Prelude.{Err}
use Rattle.scq_queue.specs.declared.heap_buffer.HeapBuffer.{HeapBuffer}
use Rattle.scq_queue.specs.contracts.heap_buffer.HeapBufferBuffer.TheImpl as buffer
use Rattle.scq_band.specs.Exports.{in_hand, bytes_in_hand, having_seen, seat_after_spent_put, seat_after_spent_get}
use Rattle.scq_band.specs.Standing.{Standing}
use Rattle.scq_band.proofs.Starting.{in_hand-come}
use Rattle.rows_queue.proofs.NoneLent.{lent_after_get, lent_after_nothing, lent_after_put, lent_after_spent}
use Rattle.rows_queue.proofs.threads.moved.Goals as goal

pub enq-requires-clause-held : goal.enq-requires-clause-held
enq-requires-clause-held c κs =
    let got = c.in-Ok.ensures.got.taken in (
      got.buffer,
      ap (λ (s : Standing HeapBuffer). in_hand s.hand c.in-Ok.index) got.seat ∙ in_hand-come c.args.seat.now.hand c.in-Ok.index got.buffer got.came,
    )

pub returns-in-Ok-enq-clause-laid : goal.returns-in-Ok-enq-clause-laid
returns-in-Ok-enq-clause-laid c =
    lent_after_put c.args.to c.in-Ok.index c.in-Ok-enq.at (bytes_in_hand buffer.ghosts.contents c.deq.new.seat.hand c.in-Ok.index) c.deq.new.seat c.enq.new.seat
    c.in-Ok-enq.ensures.put.seat
    (lent_after_get buffer.ghosts.contents buffer.ghosts.IsSameBuffer c.args.from c.in-Ok.place c.in-Ok.index c.args.seat.now c.deq.new.seat c.in-Ok.ensures.got.taken c.requires.laid)

pub returns-in-Err-enq-clause-laid : goal.returns-in-Err-enq-clause-laid
returns-in-Err-enq-clause-laid c =
    lent_after_spent c.deq.new.seat.spent (λ z. having_seen c.enq.new.seat.seen
    (seat_after_spent_put c.args.to c.in-Err-enq.spent.ticket z)) c.deq.new.seat c.enq.new.seat refl (λ z. refl)
    (λ none. (c.in-Err-enq.ensures.spent none).0) (λ t some. (c.enq.ensures.kept t some).1)
    (lent_after_get buffer.ghosts.contents buffer.ghosts.IsSameBuffer c.args.from c.in-Ok.place c.in-Ok.index c.args.seat.now c.deq.new.seat c.in-Ok.ensures.got.taken c.requires.laid)

pub returns-in-Empty-clause-laid : goal.returns-in-Empty-clause-laid
returns-in-Empty-clause-laid c =
    lent_after_nothing c.args.from c.in-Empty.head c.args.seat.now c.deq.new.seat
    (c.deq.ensures.empty c.in-Empty.head (c.in-Err.is ∙ ap (λ r. Err r) c.in-Empty.is)).seat c.requires.laid

pub returns-in-Spent-clause-laid : goal.returns-in-Spent-clause-laid
returns-in-Spent-clause-laid c =
    lent_after_spent c.args.seat.now.spent (λ z. having_seen c.deq.new.seat.seen
    (seat_after_spent_get c.args.from c.in-Spent.ticket z)) c.args.seat.now c.deq.new.seat refl (λ z. refl)
    (λ none. (c.deq.ensures.spent c.in-Spent.ticket (c.in-Err.is ∙ ap (λ r. Err r) c.in-Spent.is) none).0) (λ t some. (c.deq.ensures.kept t some).1)
    c.requires.laid
