use Rattle.scq_law.proofs.Order.OrderLaw.{one_order}
use Rattle.scq_law.proofs.orders.orders_are_plain_queues.Goals as goal

pub returns : goal.returns
returns c = λ run r order finished lin. one_order run finished r order lin
