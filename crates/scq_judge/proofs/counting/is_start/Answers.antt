use Rattle.scq_judge.proofs.CountLemmas.{start_told}
use Rattle.scq_judge.proofs.counting.is_start.Goals as goal

pub returns : goal.returns
returns c = rw c.is_some.ensures (start_told c.args.events.now c.args.e (λ call. call.now) _ c.call_started.ensures)
