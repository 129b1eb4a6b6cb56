use Rattle.scq_order.proofs.RightOrders.{right_from_orders}
use Rattle.scq_order.proofs.RightHasOrders.{orders_from_right}
use Rattle.scq_order.proofs.laws.aspects_are_orders.Goals as goal

pub returns-clause-right : goal.returns-clause-right
returns-clause-right c = λ opening events lawful orders. right_from_orders opening events lawful orders

pub returns-clause-orders : goal.returns-clause-orders
returns-clause-orders c = λ opening events complete right. orders_from_right opening events complete right
