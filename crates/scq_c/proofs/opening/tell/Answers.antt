use Rattle.std.proofs.Common.{◌∙◌, ap, arith, length-set}
use Rattle.std.specs.Prelude.{slice_index_or}
use Rattle.scq_c.specs.declared.handle.Handle.{Handle}
use Rattle.scq_c.proofs.Handed.{ports_same, found_at, told_next, all_told}
use Rattle.scq_c.proofs.opening.tell.Goals as goal

pub loop-k-preserved : goal.loop-k-preserved
loop-k-preserved c =
    let one = slice_index_or c.loop-k.ports c.loop-k.k c.index-ports-k.result in
    let next = c.tell_one.new.port in
    let here = found_at c.loop-k.ports c.loop-k.k c.index-ports-k.result c.loop-k-test.true c.index-ports-k.is in (
      ports_same c.loop-k.ports c.loop-k.k one next here (ap (λ (h : Handle). h.port) c.tell_one.ensures.same) ∙ c.loop-k.invariant.0,
      let long = length-set c.loop-k.ports c.loop-k.k next in let low = c.loop-k-test.true in omega (arith, long, low),
      told_next c.loop-k.ports c.loop-k.k c.args.memory.now next c.loop-k.invariant.2 c.tell_one.ensures.told,
    )

pub returns-clause-told : goal.returns-clause-told
returns-clause-told c =
    all_told c.loop-k.ports c.args.memory.now (λ i p low at. c.loop-k.invariant.2 i p (let past = c.loop-k-test.false in omega (arith, low, past)) at)
