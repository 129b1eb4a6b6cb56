use Rattle.std.proofs.Common.{◌∙◌, arith}
use Rattle.scq_park.proofs.Ends.{within, last_at, took_last}
use Rattle.scq_park.proofs.closing.take_row.Goals as goal

pub index_mut-requires : goal.index_mut-requires
index_mut-requires c =
    let low = within c.loop-link.links.items c.pop.new.self.items c.in-Some.link c.loop-link.wakers.items c.len.result c.in-Some.ensures.items
    (omega (arith, c.len.ensures, c.pop.new.self.ok)) c.loop-link.invariant.0 in
    omega (arith, low, c.loop-link.wakers.ok)

pub take-requires-clause-own : goal.take-requires-clause-own
take-requires-clause-own c =
    (last_at c.loop-link.links.items c.pop.new.self.items c.in-Some.link c.loop-link.wakers.items c.len.result c.in-Some.ensures.items
    (omega (arith, c.len.ensures, c.pop.new.self.ok)) c.loop-link.invariant.0 c.index_mut.result.now c.index_mut.ensures.value).own

pub take-requires-clause-parts : goal.take-requires-clause-parts
take-requires-clause-parts c =
    (last_at c.loop-link.links.items c.pop.new.self.items c.in-Some.link c.loop-link.wakers.items c.len.result c.in-Some.ensures.items
    (omega (arith, c.len.ensures, c.pop.new.self.ok)) c.loop-link.invariant.0 c.index_mut.result.now c.index_mut.ensures.value).parts

pub loop-link-preserved : goal.loop-link-preserved
loop-link-preserved c =
    let took = took_last c.loop-link.links.items c.pop.new.self.items c.in-Some.link c.loop-link.wakers.items c.len.result c.in-Some.ensures.items
    (omega (arith, c.len.ensures, c.pop.new.self.ok)) c.loop-link.invariant.0 c.index_mut.result.now c.take.new.self c.index_mut.ensures.value
    c.take.ensures in
    (took.0, took.1 ∙ c.loop-link.invariant.1)
