use Rattle.std.proofs.Common.{◌≡◌, ◌<◌, ◌∙◌, sym, map, arith}
use Rattle.scq_band.proofs.OutBuffers.{found, none_up_to, none_of}
use Rattle.scq_law.specs.Exports.{times}
use Rattle.scq_band.specs.Exports.{indices_of}
use Rattle.scq_band.proofs.closing.take_out.Goals as goal

pub returns-then-index : goal.returns-then-index
returns-then-index g c =
    let is = c.loop-at.invariant.0 in
    let here : (g.T.Lifted.pair c.index.result.now).0 ≡ c.args.index = sym c.index-in-loop-at.ensures ∙ c.if-index.true in
    rw (← is, c.swap_remove.ensures.items, c.into_buffer.ensures) (found g.T.Lifted.pair c.loop-at.out.items c.loop-at.at c.args.index c.index.result.now
    c.swap_remove.result (omega arith) c.index.ensures here c.swap_remove.ensures.value)

pub loop-at-preserved : goal.loop-at-preserved
loop-at-preserved g c = (
  c.loop-at.invariant.0,
  omega arith,
  none_up_to g.T.Lifted.pair c.loop-at.out.items c.loop-at.at c.args.index c.index.result.now (omega arith) c.index.ensures
      (λ here. c.if-index.false (c.index-in-loop-at.ensures ∙ here)) c.loop-at.invariant.2,
)

pub unreachable-requires : goal.unreachable-requires
unreachable-requires g c =
    let is = c.loop-at.invariant.0 in
    let past = c.loop-at-test.false in
    let len = c.len.ensures in
    let none : times c.args.index (indices_of (map g.T.Lifted.pair c.loop-at.out.items)) ≡ 0 =
    none_of g.T.Lifted.pair c.loop-at.out.items c.args.index (λ k q low at same. c.loop-at.invariant.2 k q (omega arith) at same) in
    let some : 0 < times c.args.index (indices_of (map g.T.Lifted.pair c.loop-at.out.items)) = rw is c.requires in
    omega arith
