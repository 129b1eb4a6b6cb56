use Rattle.scq_replay.proofs.RingOrders.{OrdersAreWritten}
use Rattle.scq_replay.proofs.ordering.order_text.Given as goal

abbrev pub invariant-loop-ring : goal.invariant-loop-ring
invariant-loop-ring l = OrdersAreWritten l.schedule l.ring l.written.items
