-- Orders of the calls of each queue that are written down, and when they are orders
use Rattle.std.specs.Prelude.{◌≡◌, ℕ, suc, ◌<◌, ◌==◌, List, [], ◌∷◌, ◌++◌, Some, map, slice_get}
use Rattle.std.specs.Prelude.{if◌then◌else◌}
use Rattle.scq_hist.specs.Exports.{IsCall, StandsIn}
use Rattle.scq_hist.specs.declared.events.Call.{Call}
use Rattle.scq_hist.specs.declared.events.Event.{Event}
use Rattle.scq_hist.specs.declared.events.Reply.{Reply}
use Rattle.scq_check.specs.Exports.{own_start}
use Rattle.scq_order.specs.Exports.{Member, token, call_at, IsOrderable, IsOrderOf}
use Rattle.scq_judge.specs.declared.walking.QueueOrder.{QueueOrder}

-- the opening tokens of a queue: all stand in queue 0
abbrev pub opening_of : List (List ℕ) → ℕ → List (List ℕ)
opening_of opening queue = if queue == 0 then opening else []

-- the tokens with these contents, in order, from number j on
abbrev pub tokens_from : ℕ → List (List ℕ) → List Member
tokens_from j [] = []
tokens_from j (content ∷ more) = token j ∷ tokens_from (suc j) more

-- the call that ends at position e
abbrev pub start_at : List Event → ℕ → ℕ
start_at events e = own_start events e (slice_get events e)

abbrev pub member_at : List Event → ℕ → Member
member_at events e = call_at (start_at events e)

-- at each of these positions a call ends
pub record EndsACall (events : List Event) (e : ℕ) : Type 0 where
  pub seat : ℕ
  pub call : Call
  pub s : ℕ
  pub reply : Reply
  pub is : IsCall events seat call s e reply

abbrev pub EndCalls : List Event → List ℕ → Type 0
EndCalls events ends = (e : ℕ) → StandsIn ends e → EndsACall events e

-- a queue's tokens, and behind them the calls that end at these positions
abbrev pub members_of : List (List ℕ) → List Event → ℕ → List ℕ → List Member
members_of opening events queue ends =
    tokens_from 0 (opening_of opening queue) ++ map (member_at events) ends

-- The numbers of the queues ascend, each order has the Ends of calls and is one of its queue, and
-- each queue that has a call to order has one
pub record AreOrders (opening : List (List ℕ)) (events : List Event)
    (orders : List QueueOrder) : Type 0 where
  pub ascend : (i k : ℕ) (a b : QueueOrder) → i < k → slice_get orders i ≡ Some a
      → slice_get orders k ≡ Some b → a.queue < b.queue
  pub ends : (i : ℕ) (order : QueueOrder) → slice_get orders i ≡ Some order
      → EndCalls events order.ends.items
  pub each : (i : ℕ) (order : QueueOrder) → slice_get orders i ≡ Some order
      → IsOrderOf opening events order.queue (members_of opening events order.queue order.ends.items)
  pub all : (queue s : ℕ) → IsOrderable events queue s
      → (i : ℕ) × (order : QueueOrder) × (slice_get orders i ≡ Some order) × (order.queue ≡ queue)
