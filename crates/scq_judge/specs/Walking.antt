-- For private calls: orders that are gone through
use Rattle.std.specs.Prelude.{◌≡◌, ℕ, ◌<◌, ◌≤◌, ◌⊎◌, Bool, true, false, List, [], ◌++◌, map, length}
use Rattle.std.specs.Prelude.{Some, slice_get, slice_index_or}
use Rattle.scq_hist.specs.Exports.{IsCall, IsLawful, StandsIn, Distinct}
use Rattle.scq_hist.specs.declared.events.Call.{Call}
use Rattle.scq_hist.specs.declared.events.Event.{Event}
use Rattle.scq_hist.specs.declared.events.PutName.{PutName}
use Rattle.scq_hist.specs.declared.events.Reply.{Reply}
use Rattle.scq_hist.specs.declared.events.Reply.TheVariants.{Spent}
use Rattle.scq_order.specs.Exports.{Member, queue_of, AnswersPlainly, StandsBefore}
use Rattle.scq_judge.specs.Ordering.{start_at, member_at, members_of}
use Rattle.scq_judge.specs.OwnCalls.{AreOwnCalls}
use Rattle.scq_judge.specs.declared.own_calls.EndedCall.{EndedCall}
use Rattle.scq_judge.specs.declared.walking.History.{History}
use Rattle.scq_judge.specs.declared.walking.QueueOrder.{QueueOrder}

-- the history is lawful, and the calls are its own
pub record IsHistory (history : History) : Type 0 where
  pub lawful : IsLawful history.events.now
  pub calls : AreOwnCalls history.events.now (length history.events.now) history.calls.now

-- the call is one of this queue, and wasn't refused
pub record IsToOrder (queue : ℕ) (ended : EndedCall) : Type 0 where
  pub of_queue : queue_of ended.call.now ≡ queue
  pub not_spent : ¬ (ended.reply.now ≡ Spent)

-- such a call ends at position e
pub record EndsInOrder (events : List Event) (queue e : ℕ) : Type 0 where
  pub seat : ℕ
  pub call : Call
  pub s : ℕ
  pub reply : Reply
  pub is : IsCall events seat call s e reply
  pub of_queue : queue_of call ≡ queue
  pub not_spent : ¬ (reply ≡ Spent)

-- a call starts at position s that ends at one of these
pub record IsStartOf (events : List Event) (ends : List ℕ) (s : ℕ) : Type 0 where
  pub e : ℕ
  pub is_in : StandsIn ends e
  pub is : s ≡ start_at events e

-- position s is marked
abbrev pub IsMarked : List Bool → ℕ → Type 0
IsMarked placed s = slice_index_or placed s false ≡ true

-- the calls with these Ends, one after the other, were taken by a queue that had its opening tokens
-- at first, and holds these puts now
pub record AreTaken (opening : List (List ℕ)) (events : List Event) (queue : ℕ) (ends : List ℕ)
    (held : List (PutName × List ℕ)) (latest : ℕ) (placed : List Bool) : Type 0 where
  pub each : (e : ℕ) → StandsIn ends e → EndsInOrder events queue e
  pub once : Distinct (map (member_at events) ends)
  pub overlap : (d e : ℕ) → StandsBefore ends d e → start_at events d < e
  pub late : (e : ℕ) → StandsIn ends e → start_at events e ≤ latest
  pub marked : (e : ℕ) → StandsIn ends e → IsMarked placed (start_at events e)
  pub plain : (rest : List Member) → AnswersPlainly opening events held rest
      → AnswersPlainly opening events [] (members_of opening events queue ends ++ rest)

-- so they were taken, and what has become marked are their Starts
pub record AreTakenFrom (opening : List (List ℕ)) (events : List Event) (queue : ℕ)
    (ends : List ℕ) (held : List (PutName × List ℕ)) (latest : ℕ) (old new : List Bool) : Type 0 where
  pub many : length new ≡ length events
  pub taken : AreTaken opening events queue ends held latest new
  pub marks : (s : ℕ) → IsMarked new s → IsMarked old s ⊎ IsStartOf events ends s

-- so were all calls of the order
pub record IsTaken (opening : List (List ℕ)) (events : List Event) (order : QueueOrder)
    (old new : List Bool) : Type 0 where
  pub held : List (PutName × List ℕ)
  pub latest : ℕ
  pub all : AreTakenFrom opening events order.queue order.ends.items held latest old new

-- the Start of the call is marked that ends at position e, if one does that isn't refused
abbrev pub IsPlacedAt : List Event → List Bool → ℕ → Type 0
IsPlacedAt events placed e = (seat s : ℕ) (call : Call) (reply : Reply)
    → IsCall events seat call s e reply → ¬ (reply ≡ Spent) → IsMarked placed s

-- so at each position before m
abbrev pub AreAllPlaced : List Event → List Bool → ℕ → Type 0
AreAllPlaced events placed m = (e : ℕ) → e < m → IsPlacedAt events placed e

-- position s is marked for a call of one of the first i orders
pub record IsMarkedBy (events : List Event) (orders : List QueueOrder) (i s : ℕ) : Type 0 where
  pub k : ℕ
  pub order : QueueOrder
  pub e : ℕ
  pub before : k < i
  pub at_k : slice_get orders k ≡ Some order
  pub is_in : StandsIn order.ends.items e
  pub is : s ≡ start_at events e

-- the calls of the order were taken
pub record AreAllTaken (opening : List (List ℕ)) (events : List Event)
    (order : QueueOrder) : Type 0 where
  pub held : List (PutName × List ℕ)
  pub latest : ℕ
  pub placed : List Bool
  pub taken : AreTaken opening events order.queue order.ends.items held latest placed

-- the first i orders were gone through: the numbers of their queues ascend and are below this one
pub record AreGone (opening : List (List ℕ)) (events : List Event) (orders : List QueueOrder)
    (i least : ℕ) (placed : List Bool) : Type 0 where
  pub many : length placed ≡ length events
  pub below : (k : ℕ) (a : QueueOrder) → k < i → slice_get orders k ≡ Some a → a.queue < least
  pub ascend : (j k : ℕ) (a b : QueueOrder) → j < k → k < i → slice_get orders j ≡ Some a
      → slice_get orders k ≡ Some b → a.queue < b.queue
  pub taken : (k : ℕ) (a : QueueOrder) → k < i → slice_get orders k ≡ Some a
      → AreAllTaken opening events a
  pub marked : (s : ℕ) → IsMarked placed s → IsMarkedBy events orders i s
