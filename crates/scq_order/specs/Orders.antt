-- A sequential order of the calls of one queue of a history, and when a history is right. A call is
-- known by the position of its Start
use Rattle.std.specs.Prelude.{◌≡◌, ℕ, suc, ◌<◌, List, [], ◌∷◌, ◌++◌, ◌⊎◌, None, Some, slice_get}
use Rattle.std.specs.Prelude.{length}
use Rattle.scq_hist.specs.Calls.{under_way, puts_before, IsCall, Names, IsGetOf}
use Rattle.scq_hist.specs.Counts.{StandsIn, Distinct}
use Rattle.scq_hist.specs.Aspects.{HasAspects, AllClaimed}
use Rattle.scq_hist.specs.declared.events.Call.{Call}
use Rattle.scq_hist.specs.declared.events.Call.TheVariants.{Put, Get}
use Rattle.scq_hist.specs.declared.events.Event.{Event}
use Rattle.scq_hist.specs.declared.events.PutName.{PutName}
use Rattle.scq_hist.specs.declared.events.PutName.TheVariants.{Opening, Of}
use Rattle.scq_hist.specs.declared.events.Reply.{Reply}
use Rattle.scq_hist.specs.declared.events.Reply.TheVariants.{Done, Got, Nothing, Spent}

-- what a sequential queue that holds these puts replies, and what it holds after that
abbrev pub plain_reply : List (PutName × List ℕ) → Call → Reply
plain_reply queue (Put r w) = Done
plain_reply [] (Get r) = Nothing
plain_reply (front ∷ queue) (Get r) = Got front.0 front.1

abbrev pub plain_after : List (PutName × List ℕ) → PutName → Call → List (PutName × List ℕ)
plain_after queue name (Put r w) = queue ++ (name, w) ∷ []
plain_after [] name (Get r) = []
plain_after (front ∷ queue) name (Get r) = queue

-- an opening token, or the call that starts at a position
pub data Member : Type 0 where
  token : ℕ → Member
  call_at : ℕ → Member

-- the call that starts there has ended: its seat, the call, its End and its reply
pub record IsEnded (events : List Event) (s : ℕ) : Type 0 where
  pub seat : ℕ
  pub call : Call
  pub e : ℕ
  pub reply : Reply
  pub is : IsCall events seat call s e reply

-- one after the other, from a queue that holds these puts, each ended call has a sequential queue's
-- reply. The content and the name of what is got are those of the put
abbrev pub AnswersPlainly :
    List (List ℕ) → List Event → List (PutName × List ℕ) → List Member → Type 0
AnswersPlainly opening events queue [] = Unit {0}
AnswersPlainly opening events queue (token j ∷ order) =
    (content : List ℕ) × (slice_get opening j ≡ Some content)
    × AnswersPlainly opening events (queue ++ (Opening j, content) ∷ []) order
AnswersPlainly opening events queue (call_at s ∷ order) =
    (c : IsEnded events s) × (c.reply ≡ plain_reply queue c.call)
    × AnswersPlainly opening events
    (plain_after queue (Of c.seat (suc (puts_before events c.seat s))) c.call) order

abbrev pub queue_of : Call → ℕ
queue_of (Put queue content) = queue
queue_of (Get queue) = queue

-- x stands in the list, and y after it
abbrev pub StandsBefore : {X : Type 0} → List X → X → X → Type 0
StandsBefore [] x y = ⊥
StandsBefore (z ∷ zs) x y = ((z ≡ x) × StandsIn zs y) ⊎ StandsBefore zs x y

-- a call of this queue that ended otherwise than with Spent
pub record IsOrderable (events : List Event) (queue s : ℕ) : Type 0 where
  pub ended : IsEnded events s
  pub of_queue : queue_of ended.call ≡ queue
  pub not_spent : ¬ (ended.reply ≡ Spent)

-- what an order of the queue has: of queue 0 each opening token, and each such call
abbrev pub IsMember : List (List ℕ) → List Event → ℕ → Member → Type 0
IsMember opening events queue (token j) = (queue ≡ 0) × (j < length opening)
IsMember opening events queue (call_at s) = IsOrderable events queue s

-- a sequential order of the queue: just its members, each once, the tokens first and in order; a
-- call that ended before another started stands before it; the replies are a sequential queue's
pub record IsOrderOf (opening : List (List ℕ)) (events : List Event) (queue : ℕ)
    (order : List Member) : Type 0 where
  pub all : (x : Member) → IsMember opening events queue x → StandsIn order x
  pub only : (x : Member) → StandsIn order x → IsMember opening events queue x
  pub once : Distinct order
  pub first : (j s : ℕ) → StandsIn order (token j) → StandsIn order (call_at s)
      → StandsBefore order (token j) (call_at s)
  pub ascend : (i j : ℕ) → i < j → StandsIn order (token i) → StandsIn order (token j)
      → StandsBefore order (token i) (token j)
  pub real_time : (s r e seat : ℕ) (call : Call) (reply : Reply)
      → IsCall events seat call s e reply → e < r
      → StandsIn order (call_at s) → StandsIn order (call_at r)
      → StandsBefore order (call_at s) (call_at r)
  pub plain : AnswersPlainly opening events [] order

-- each queue has one
abbrev pub HasOrders : List (List ℕ) → List Event → Type 0
HasOrders opening events =
    (queue : ℕ) → (order : List Member) × IsOrderOf opening events queue order

-- complete: each call has ended
abbrev pub IsComplete : List Event → Type 0
IsComplete events = (seat : ℕ) → under_way events seat (length events) ≡ None

-- the four aspects, and two more: no Got names a put that was refused, and opening tokens are got
-- in their order
pub record IsRight (opening : List (List ℕ)) (events : List Event) : Type 0 where
  pub aspects : HasAspects opening events
  pub accepted : (e seat number d s queue : ℕ) (content : List ℕ) → Names events e (Of seat number)
      → number ≡ suc (puts_before events seat s)
      → ¬ IsCall events seat (Put queue content) s d Spent
  pub tokens : (j s e : ℕ) → j < length opening → IsGetOf events (Opening j) s e
      → AllClaimed events 0 e (λ name. (i : ℕ) × (i < j) × (name ≡ Opening i))
