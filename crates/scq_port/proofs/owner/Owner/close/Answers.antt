use Rattle.std.proofs.Common.{List, map, sym, subst}
use Rattle.scq_queue.specs.Exports.{PassStanding}
use Rattle.scq_port.specs.declared.port_buffer.PortBuffer.{PortBuffer}
use Rattle.scq_port.specs.Exports.{PortQueue, buffer_bytes, AreAllPasses, HasClosedPorts}
use Rattle.scq_port.proofs.Numbered.{numbers_at_end}
use Rattle.scq_port.proofs.owner.Owner.close.Goals as goal

pub returns-in-Some-clause-closed : goal.returns-in-Some-clause-closed
returns-in-Some-clause-closed c =
    let queue = c.args.self.queue in
    let e = c.close.ensures in
    subst (λ (l : List (PassStanding PortBuffer)).
    HasClosedPorts queue c.args.last.value l c.close.result.left.items (map buffer_bytes c.close.result.buffers.items)) (sym e.back.passes) (record {
      values = c.in-Some.values.items;
      are_all =
          subst (λ (q : PortQueue). AreAllPasses q c.args.last.value c.in-Some.passes.items c.in-Some.values.items) c.args.self.own c.in-Some.ensures;
      run = e.run;
      sent = e.sent;
      none_lost = e.values;
      spent = e.spent;
      retired = e.retired;
      numbers = numbers_at_end queue c.close.result.buffers.items c.args.self.numbers e.back.buffers;
    })
