-- What proofs and other crates import of these files.
pub use Rattle.scq_order.specs.Orders.{plain_reply, plain_after, Member, token, call_at, IsEnded}
pub use Rattle.scq_order.specs.Orders.{AnswersPlainly, queue_of, StandsBefore, IsOrderable}
pub use Rattle.scq_order.specs.Orders.{IsMember, IsOrderOf, HasOrders, IsComplete, IsRight}
