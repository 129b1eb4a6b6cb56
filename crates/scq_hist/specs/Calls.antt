-- What the events of a list say of the calls of its seats. Positions are counted from 0. Moment m
-- is the point after the first m events. A call is known by its seat and the position of its Start
use Rattle.std.specs.Prelude.{◌≡◌, ℕ, zero, suc, ◌+◌, ◌<◌, ◌==◌, if◌then◌else◌, List, Option, Some}
use Rattle.std.specs.Prelude.{None, length, slice_get}
use Rattle.scq_hist.specs.declared.events.Call.{Call}
use Rattle.scq_hist.specs.declared.events.Call.TheVariants.{Put, Get}
use Rattle.scq_hist.specs.declared.events.Event.{Event}
use Rattle.scq_hist.specs.declared.events.Event.TheVariants.{Start, End}
use Rattle.scq_hist.specs.declared.events.PutName.{PutName}
use Rattle.scq_hist.specs.declared.events.PutName.TheVariants.{Opening, Of}
use Rattle.scq_hist.specs.declared.events.Reply.{Reply}
use Rattle.scq_hist.specs.declared.events.Reply.TheVariants.{Done, Got}

-- what a seat has under way just after this event, which stands at position i, where it had
-- `before` just before it
abbrev pub under_way_after : Option Event → ℕ → ℕ → Option ℕ → Option ℕ
under_way_after (Some (Start k _)) i seat before = if k == seat then Some i else before
under_way_after (Some (End k _)) i seat before = if k == seat then None else before
under_way_after None i seat before = before

-- the call that the seat has under way at moment m: it started and hasn't ended by then
abbrev pub under_way : List Event → ℕ → ℕ → Option ℕ
under_way events seat zero = None
under_way events seat (suc m) =
    under_way_after (slice_get events m) m seat (under_way events seat m)

-- this event is the Start of a put of the seat: 1, else 0
abbrev pub put_start : Option Event → ℕ → ℕ
put_start (Some (Start k (Put _ _))) seat = if k == seat then 1 else 0
put_start _ seat = 0

-- how many puts the seat began by moment m, over all queues
abbrev pub puts_before : List Event → ℕ → ℕ → ℕ
puts_before events seat zero = 0
puts_before events seat (suc m) = puts_before events seat m + put_start (slice_get events m) seat

-- a call that starts at position s and ends with this reply at position e
pub record IsCall (events : List Event) (seat : ℕ) (call : Call) (s e : ℕ)
    (reply : Reply) : Type 0 where
  pub starts : slice_get events s ≡ Some (Start seat call)
  pub under_way_till : under_way events seat e ≡ Some s
  pub ends : slice_get events e ≡ Some (End seat reply)

-- the seat's put of this number, counted from 1, starts at position s
pub record IsPut (events : List Event) (seat number queue : ℕ) (content : List ℕ)
    (s : ℕ) : Type 0 where
  pub starts : slice_get events s ≡ Some (Start seat (Put queue content))
  pub counted : number ≡ suc (puts_before events seat s)

-- the seat's put of this number is one of this queue and ends with Done at position e
pub record IsDoneAt (events : List Event) (queue e seat number : ℕ) : Type 0 where
  pub s : ℕ
  pub content : List ℕ
  pub put : IsPut events seat number queue content s
  pub call : IsCall events seat (Put queue content) s e Done

-- a put of this queue that is finished at moment m: an opening token, or a put whose End with Done
-- is among the first m events
abbrev pub IsFinishedAt : List (List ℕ) → List Event → ℕ → ℕ → PutName → Type 0
IsFinishedAt opening events queue m (Opening number) = (queue ≡ 0) × (number < length opening)
IsFinishedAt opening events queue m (Of seat number) =
    (e : ℕ) × (e < m) × IsDoneAt events queue e seat number

-- at position e stands an End with Got that names the put
pub record Names (events : List Event) (e : ℕ) (name : PutName) : Type 0 where
  pub seat : ℕ
  pub content : List ℕ
  pub ends : slice_get events e ≡ Some (End seat (Got name content))

-- some End with Got names the put
abbrev pub IsGot : List Event → PutName → Type 0
IsGot events name = (e : ℕ) × Names events e name

-- the get of the put, which starts at position s and ends at position e: its End is the first with
-- Got that names the put
pub record IsGetOf (events : List Event) (name : PutName) (s e : ℕ) : Type 0 where
  pub seat : ℕ
  pub queue : ℕ
  pub content : List ℕ
  pub call : IsCall events seat (Get queue) s e (Got name content)
  pub first : (d : ℕ) → d < e → ¬ Names events d name

-- the put is got by a call that started before moment m
pub record IsGotBefore (events : List Event) (m : ℕ) (name : PutName) : Type 0 where
  pub s : ℕ
  pub e : ℕ
  pub before : s < m
  pub get : IsGetOf events name s e

-- a get of this queue that starts at position s, before moment m, and is under way at the end of
-- the list
pub record IsPending (events : List Event) (queue m s : ℕ) : Type 0 where
  pub seat : ℕ
  pub starts : slice_get events s ≡ Some (Start seat (Get queue))
  pub before : s < m
  pub under_way_still : under_way events seat (length events) ≡ Some s
