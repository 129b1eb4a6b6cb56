use Rattle.scq_queue.proofs.HeldOnce.{holds_same, lend_refused}
use Rattle.example_queue.proofs.sent.Goals as goal

pub returns-in-Err : goal.returns-in-Err
returns-in-Err c =
    record {
      pass =
          holds_same c.args.queue.now c.args.pass.now c.lend.new.pass _ c.requires.pass
          (lend_refused c.args.pass.now c.lend.new.pass c.in-Err.ensures.kept c.in-Err.field-0 c.in-Err.ensures.full c.in-Err.ensures.spent);
    }
