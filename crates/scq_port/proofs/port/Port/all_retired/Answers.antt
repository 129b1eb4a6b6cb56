use Rattle.std.proofs.Common.{rules, ap, subst, refl}
use Rattle.scq_queue.specs.Exports.{PassStanding}
use Rattle.scq_port.specs.declared.port_buffer.PortBuffer.{PortBuffer}
use Rattle.scq_port.specs.Exports.{PortStanding, HasAsked, seen_as}
use Rattle.scq_port.proofs.Records.{asked_of}
use Rattle.scq_port.proofs.port.Port.all_retired.Goals as goal

pub returns : goal.returns
returns c =
    let looked = c.closed.ensures.looked in
    let gate = ap (λ (p : PassStanding PortBuffer). p.gate) looked.1 in (
      looked.0,
      subst (λ (p : PortStanding). HasAsked looked.0 p (seen_as c.closed.new.pass c.self.inside.hand)) c.self.view_is
          (asked_of c.deref.result.now.queue (seen_as c.self.inside.pass c.self.inside.hand) (seen_as c.closed.new.pass c.self.inside.hand)
          c.closed.result looked.0 (search (rules, c.deref.ensures, c.self.invariant.keeps.own)) looked.1 refl refl
          (c.closed.ensures.in_run looked.0 gate) c.closed.ensures.told looked.2),
      looked.2,
    )
