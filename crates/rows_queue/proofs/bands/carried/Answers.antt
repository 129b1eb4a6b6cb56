use Rattle.std.proofs.Common.{◌∙◌, ap}
use Rattle.std.specs.Prelude.{Some, None}
use Rattle.scq_queue.specs.declared.heap_buffer.HeapBuffer.{HeapBuffer}
use Rattle.scq_band.specs.Exports.{in_hand}
use Rattle.scq_band.specs.Standing.{Standing}
use Rattle.scq_band.proofs.Starting.{in_hand-come}
use Rattle.rows_queue.proofs.Lifting.{now_there}
use Rattle.rows_queue.proofs.bands.carried.Goals as goal

pub lift-buffer-requires-clause-laid : goal.lift-buffer-requires-clause-laid
lift-buffer-requires-clause-laid c κs =
    let got = c.in-Ok.ensures.got.taken in (
      got.buffer,
      ap (λ (s : Standing HeapBuffer). in_hand s.hand c.in-Ok.index) got.seat ∙ in_hand-come c.args.seat.now.hand c.in-Ok.index got.buffer got.came,
    )

pub lay-requires-clause-lifted : goal.lay-requires-clause-lifted
lay-requires-clause-lifted c κs =
    now_there c.in-Ok.index (Some c.lift-buffer.result) None c.deq.new.seat c.lift-buffer.new.seat c.lift-buffer.ensures.buffer c.lift-buffer.ensures.lifted

pub lift-again-requires-clause-laid : goal.lift-again-requires-clause-laid
lift-again-requires-clause-laid c κs =
    let lifted = now_there c.in-Ok.index (Some c.lift-buffer.result) None c.deq.new.seat c.lift-buffer.new.seat c.lift-buffer.ensures.buffer
    c.lift-buffer.ensures.lifted in (
      c.lift-buffer.result,
      now_there c.in-Ok.index None (Some c.lift-buffer.result) c.lift-buffer.new.seat c.lay.new.seat lifted c.lay.ensures.laid,
    )

pub put-requires-clause-lifted : goal.put-requires-clause-lifted
put-requires-clause-lifted c κs =
    now_there c.in-Ok.index (Some c.lift-again.result) None c.lay.new.seat c.lift-again.new.seat c.lift-again.ensures.buffer c.lift-again.ensures.lifted
