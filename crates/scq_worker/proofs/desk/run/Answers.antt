use Rattle.std.proofs.Common.{sym}
use Rattle.scq_desk.proofs.Passes.{none-or}
use Rattle.scq_worker.proofs.desk.run.Goals as goal

pub returns-in-Some-clause-run : goal.returns-in-Some-clause-run
returns-in-Some-clause-run g c = c.produce.ensures.produced.done c.in-Some.field-0 (sym c.in-Some.ensures)

pub leave-requires-clause-sweep : goal.leave-requires-clause-sweep
leave-requires-clause-sweep g c κs within = c.produce.ensures.produced.awake (sym c.in-None.ensures)

pub returns-in-Some-clause-behind : goal.returns-in-Some-clause-behind
returns-in-Some-clause-behind g c awake = absurd (none-or c.produce.new.desk.worker.worker.pass.spent c.in-Some.field-0 (sym c.in-Some.ensures) awake)
