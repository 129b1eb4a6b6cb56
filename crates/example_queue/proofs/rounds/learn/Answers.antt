use Rattle.std.proofs.Common.{ap, []}
use Rattle.scq_queue.specs.Exports.{PassStanding}
use Rattle.scq_queue.specs.declared.heap_buffer.HeapBuffer.{HeapBuffer}
use Rattle.scq_queue.proofs.HeldOnce.{holds_same}
use Rattle.example_queue.proofs.rounds.learn.Goals as goal

pub returns : goal.returns
returns g c =
    let is = c.learn.ensures in
    holds_same c.args.queue.now c.args.pass.now c.learn.new.pass [] c.requires.pass
    (record {
      queue = ap (λ (p : PassStanding HeapBuffer). p.queue) is;
      number = ap (λ (p : PassStanding HeapBuffer). p.number) is;
      held = ap (λ (p : PassStanding HeapBuffer). p.held) is;
      retired = ap (λ (p : PassStanding HeapBuffer). p.retired) is;
    })
