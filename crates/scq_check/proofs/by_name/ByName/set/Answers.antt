use Rattle.scq_check.proofs.Orders.{by_name}
use Rattle.scq_check.proofs.by_name.ByName.set.Goals as goal

pub returns : goal.returns
returns c = λ k n. by_name (c.args.seat, c.args.number) (k, n) _ _ _ (c.in_ok-insert.ensures.updates.0 (k, n))
