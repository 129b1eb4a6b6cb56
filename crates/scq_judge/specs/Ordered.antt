-- What is said where an order of a history is asked for
use Rattle.std.specs.Prelude.{◌≡◌, ℕ, true, false, List, Some, None}
use Rattle.scq_hist.specs.declared.events.Event.{Event}
use Rattle.scq_judge.specs.Ordering.{AreOrders}
use Rattle.scq_judge.specs.OrderText.{order_lines}
use Rattle.scq_judge.specs.Report.{IsOrderTold}
use Rattle.scq_judge.specs.declared.ordering.Ordered.{Ordered}
use Rattle.scq_judge.specs.declared.ordering.Ordered.TheVariants.{Order, NotLinearizable}
use Rattle.scq_judge.specs.declared.ordering.Ordered.TheVariants.{NeverEnded, NotFound}
use Rattle.scq_judge.specs.declared.walking.QueueOrder.{QueueOrder}

-- the text is that of orders of the queues
pub record IsOrderText (opening : List (List ℕ)) (events : List Event)
    (text : List ℕ) : Type 0 where
  pub orders : List QueueOrder
  pub are : AreOrders opening events orders
  pub said : text ≡ order_lines events orders

-- an order, or that the history is not linearizable, that a call never ends, or that it is
-- linearizable without an order having been found
abbrev pub IsOrderedOf : List (List ℕ) → List Event → Ordered → Type 0
IsOrderedOf opening events (Order text) = IsOrderText opening events text
IsOrderedOf opening events NotLinearizable = IsOrderTold opening events (Some false)
IsOrderedOf opening events NeverEnded = IsOrderTold opening events None
IsOrderedOf opening events NotFound = IsOrderTold opening events (Some true)
