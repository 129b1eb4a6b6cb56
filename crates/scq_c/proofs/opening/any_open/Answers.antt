use Rattle.std.proofs.Common.{◌+◌, List, refl, sym, ◌∙◌, ap, subst, arith, length-set}
use Rattle.std.specs.Prelude.{Option, Some, slice_index_or}
use Rattle.scq_port.specs.Exports.{PortStanding}
use Rattle.scq_c.specs.declared.c_port.CPort.{CPort}
use Rattle.scq_c.specs.Exports.{ports_of}
use Rattle.scq_c.proofs.Handed.{NoneBelow, port_at, ports_same, memories_same, all_closed, none_closed, closed_alike, found_at, none_next}
use Rattle.scq_c.proofs.opening.any_open.Goals as goal

pub returns-then-is_open-clause-same : goal.returns-then-is_open-clause-same
returns-then-is_open-clause-same c =
    let one = slice_index_or c.loop-k.ports c.loop-k.k c.index-ports-k.result in
    let here = found_at c.loop-k.ports c.loop-k.k c.index-ports-k.result c.loop-k-test.true c.index-ports-k.is in
    ports_same c.loop-k.ports c.loop-k.k one (record one { handle = c.is_open.new.handle }) here c.is_open.ensures.same ∙ c.loop-k.invariant.0

pub returns-then-is_open-clause-memories : goal.returns-then-is_open-clause-memories
returns-then-is_open-clause-memories c =
    let one = slice_index_or c.loop-k.ports c.loop-k.k c.index-ports-k.result in
    let here = found_at c.loop-k.ports c.loop-k.k c.index-ports-k.result c.loop-k-test.true c.index-ports-k.is in
    memories_same c.loop-k.ports c.loop-k.k one (record one { handle = c.is_open.new.handle }) here refl ∙ c.loop-k.invariant.1

pub returns-then-is_open-clause-open : goal.returns-then-is_open-clause-open
returns-then-is_open-clause-open c yes_ all =
    let one = slice_index_or c.loop-k.ports c.loop-k.k c.index-ports-k.result in
    let here = found_at c.loop-k.ports c.loop-k.k c.index-ports-k.result c.loop-k-test.true c.index-ports-k.is in
    c.if-is_open.ensures.open refl
    (none_closed c.loop-k.ports c.loop-k.k one (closed_alike c.loop-k.ports c.args.ports.now c.loop-k.invariant.0 all) here)

pub loop-k-preserved : goal.loop-k-preserved
loop-k-preserved c =
    let one = slice_index_or c.loop-k.ports c.loop-k.k c.index-ports-k.result in
    let next : CPort = record one { handle = c.is_open.new.handle } in
    let here = found_at c.loop-k.ports c.loop-k.k c.index-ports-k.result c.loop-k-test.true c.index-ports-k.is in
    let same = ports_same c.loop-k.ports c.loop-k.k one next here c.is_open.ensures.same in (
      same ∙ c.loop-k.invariant.0,
      memories_same c.loop-k.ports c.loop-k.k one next here refl ∙ c.loop-k.invariant.1,
      let long = length-set c.loop-k.ports c.loop-k.k next in let low = c.loop-k-test.true in omega (arith, long, low),
      subst (λ (os : List (Option PortStanding)). NoneBelow (c.loop-k.k + 1) os) (sym same)
          (none_next c.loop-k.k (ports_of c.loop-k.ports) c.loop-k.invariant.3
          (port_at c.loop-k.ports c.loop-k.k one here ∙ ap (λ (o : Option PortStanding). Some o) (c.if-is_open.ensures.closed refl))),
    )

pub returns-clause-closed : goal.returns-clause-closed
returns-clause-closed c no_ =
    closed_alike c.args.ports.now c.loop-k.ports (sym c.loop-k.invariant.0)
    (all_closed c.loop-k.ports (λ i low. c.loop-k.invariant.3 i (let past = c.loop-k-test.false in omega (arith, low, past))))
