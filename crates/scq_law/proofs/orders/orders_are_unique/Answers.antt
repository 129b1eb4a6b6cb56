use Rattle.scq_law.proofs.Order.OneList.{one_list}
use Rattle.scq_law.proofs.Order.OrderExists.{order_exists}
use Rattle.scq_law.proofs.orders.orders_are_unique.Goals as goal

pub returns : goal.returns
returns c = record {
  some = λ run r fin. order_exists run fin r;
  one = λ run r order another first second. one_list run r order another first second;
}
