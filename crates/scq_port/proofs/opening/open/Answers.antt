use Rattle.std.proofs.Common.{List, map, ◌∙◌, ap}
use Rattle.scq_word.specs.Exports.{n_of}
use Rattle.scq_queue.specs.Exports.{PassStanding}
use Rattle.scq_port.specs.declared.port_buffer.PortBuffer.{PortBuffer}
use Rattle.scq_port.specs.Exports.{numbers_below, buffer_bytes, AreOpened, new_port}
use Rattle.scq_port.proofs.Opened.{if_ok}
use Rattle.scq_port.proofs.opening.open.Goals as goal

pub returns : goal.returns
returns c =
    let made = c.in-Ok.ensures in
    if_ok c.ports_of.result _ (λ ports. AreOpened c.args.setup c.args.hold ports.items) (λ ports is. record {
      queue = c.in-Ok.queue;
      setup = made.queue.0;
      buffers =
          ap (λ (l : List PortBuffer). map buffer_bytes l) made.queue.1 ∙ c.in_ok-buffers.ensures.numbers
          ∙ ap numbers_below (c.n.ensures ∙ ap n_of c.shape.ensures);
      ports = is ∙ ap (λ (l : List (PassStanding PortBuffer)). map (new_port c.args.hold) l) made.passes;
    }) c.ports_of.ensures
