use Rattle.std.proofs.Common.{◌==◌, ◌∙◌, ap, is_some}
use Rattle.scq_judge.proofs.CountLemmas.{seen_added}
use Rattle.scq_check.proofs.Orders.{by_number}
use Rattle.scq_judge.proofs.counting.Seen.add.Goals as goal

pub returns : goal.returns
returns c = λ other. ap is_some (by_number c.args.number other _ _ _ (c.in_ok-insert.ensures.updates.0 other)) ∙ seen_added (c.args.number == other) _
