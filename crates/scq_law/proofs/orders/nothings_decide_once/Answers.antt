use Rattle.scq_law.proofs.Order.DecisionLaws.{decision_nothing, nothing_decides}
use Rattle.scq_law.proofs.Order.KeyUnique.{one_decision}
use Rattle.scq_law.proofs.orders.nothings_decide_once.Goals as goal

pub returns : goal.returns
returns c = record {
  ends = λ run d seat call r fin is. decision_nothing run fin d seat call r is;
  decides = λ run seat call r fin ended. nothing_decides run fin.recorded fin.is_run seat call r ended;
  once = λ run d e seat call r q fin first second. one_decision run fin.recorded fin.is_run d e seat call r q first second;
}
