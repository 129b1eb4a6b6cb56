use Rattle.scq_topics.proofs.SumRun.{run-runs}
use Rattle.scq_topics.proofs.sum.token_sum.Goals as goal

pub loop-byte-init : goal.loop-byte-init
loop-byte-init c = run-runs c.args.payload.now
