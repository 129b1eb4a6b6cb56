use Rattle.std.proofs.Common.{vec_capacity}
use Rattle.scq_block.proofs.FrameLists.{IsDealing-next}
use Rattle.scq_block.proofs.block.deal.Goals as goal

pub loop-number-preserved : goal.loop-number-preserved
loop-number-preserved c =
    let a = c.args in
    let l = c.loop-number in
    let put = c.push_reserved.ensures in
    rw (put.items, put.capacity)
    (IsDealing-next a.start a.n a.cap l.number (vec_capacity l.frames) l.frames.items l.rest c.cut-front.result.0 c.cut-front.result.1 c.over.result
    l.invariant c.loop-number-test.true c.cut-front.ensures (c.over.ensures.0, c.over.ensures.1, c.over.ensures.2))
