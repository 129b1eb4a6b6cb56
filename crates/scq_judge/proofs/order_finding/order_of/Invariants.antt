use Rattle.std.proofs.Common.{◌-◌, vec_len}
use Rattle.scq_judge.proofs.order_finding.order_of.Given as goal

abbrev pub decreases-gets : goal.decreases-gets
decreases-gets l = vec_len l.by_get - l.next
