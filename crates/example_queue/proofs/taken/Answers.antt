use Rattle.scq_queue.proofs.HeldOnce.{holds_same, take_refused}
use Rattle.example_queue.proofs.taken.Goals as goal

pub returns-in-Err : goal.returns-in-Err
returns-in-Err c =
    record {
      pass =
          holds_same c.args.queue.now c.args.pass.now c.take.new.pass _ c.requires.pass
          (take_refused c.args.pass.now c.take.new.pass c.in-Err.ensures.kept 0 c.in-Err.field-0 c.in-Err.ensures.empty c.in-Err.ensures.spent);
    }
