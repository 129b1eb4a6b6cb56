-- The four aspects of a history of queues, after the four violations of Henzinger, Sezgin and
-- Vafeiadis: a value taken that was never put, a value taken twice, two values out of order, an
-- Empty although the queue was never empty in that call. `opening` has the contents of the tokens
-- that stand in queue 0 before the list
use Rattle.std.specs.Prelude.{◌≡◌, ℕ, ◌<◌, ◌≤◌, ◌⊎◌, List, Option, Some, None, slice_get}
use Rattle.scq_hist.specs.Calls.{under_way, IsCall, IsPut, IsFinishedAt, Names, IsGot, IsGetOf}
use Rattle.scq_hist.specs.Calls.{IsGotBefore, IsPending}
use Rattle.scq_hist.specs.Counts.{AtMostAsMany}
use Rattle.scq_hist.specs.declared.events.Call.{Call}
use Rattle.scq_hist.specs.declared.events.Call.TheVariants.{Put, Get}
use Rattle.scq_hist.specs.declared.events.Event.{Event}
use Rattle.scq_hist.specs.declared.events.Event.TheVariants.{Start, End}
use Rattle.scq_hist.specs.declared.events.PutName.{PutName}
use Rattle.scq_hist.specs.declared.events.PutName.TheVariants.{Opening, Of}
use Rattle.scq_hist.specs.declared.events.Reply.{Reply}
use Rattle.scq_hist.specs.declared.events.Reply.TheVariants.{Done, Got, Nothing, Spent}

-- the reply suits the call
abbrev pub SuitsCall : Call → Reply → Type 0
SuitsCall (Put _ _) Done = Unit {0}
SuitsCall (Put _ _) Spent = Unit {0}
SuitsCall (Put _ _) _ = ⊥
SuitsCall (Get _) (Got _ _) = Unit {0}
SuitsCall (Get _) Nothing = Unit {0}
SuitsCall (Get _) Spent = Unit {0}
SuitsCall (Get _) Done = ⊥

-- at position e a call ends by a reply that suits it
pub record IsAnswer (events : List Event) (seat e : ℕ) (reply : Reply) : Type 0 where
  pub s : ℕ
  pub call : Call
  pub is_call : IsCall events seat call s e reply
  pub suits : SuitsCall call reply

-- the event at position i is lawful there: a seat starts a call when it has none under way, and
-- ends the one that it has
abbrev pub IsLawfulAt : List Event → ℕ → Option Event → Type 0
IsLawfulAt events i (Some (Start seat _)) = under_way events seat i ≡ None
IsLawfulAt events i (Some (End seat reply)) = IsAnswer events seat i reply
IsLawfulAt events i None = Unit {0}

-- lawful: the events of each seat alternate, beginning with a Start, and each reply suits its call
abbrev pub IsLawful : List Event → Type 0
IsLawful events = (i : ℕ) → IsLawfulAt events i (slice_get events i)

-- the put of this name is of this queue and content, and is an opening token or starts before
-- position e
abbrev pub IsBegun : List (List ℕ) → List Event → PutName → ℕ → List ℕ → ℕ → Type 0
IsBegun opening events (Opening number) queue content e =
    (queue ≡ 0) × (slice_get opening number ≡ Some content)
IsBegun opening events (Of seat number) queue content e =
    (s : ℕ) × (s < e) × IsPut events seat number queue content s

-- fresh, for the Got at position e: it names a put of its own queue and content that is an opening
-- token or started before
abbrev pub IsFreshAt : List (List ℕ) → List Event → ℕ → Type 0
IsFreshAt opening events e = (s seat queue : ℕ) (name : PutName) (content : List ℕ)
    → IsCall events seat (Get queue) s e (Got name content)
    → IsBegun opening events name queue content e

-- fresh: each Got
abbrev pub IsFresh : List (List ℕ) → List Event → Type 0
IsFresh opening events = (e : ℕ) → IsFreshAt opening events e

-- once, for the Got at position e: no Got before it names the same put
abbrev pub IsOnceAt : List Event → ℕ → Type 0
IsOnceAt events e = (name : PutName) (d : ℕ) → Names events e name → d < e → ¬ Names events d name

-- once: each Got, so no two name the same put
abbrev pub IsOnce : List Event → Type 0
IsOnce events = (e : ℕ) → IsOnceAt events e

-- the put is claimed at moment m: it is got by a call that started before, or it isn't got in the
-- list at all (then `matched` finds it a get)
abbrev pub IsClaimed : List Event → ℕ → PutName → Type 0
IsClaimed events m name = IsGotBefore events m name ⊎ (¬ IsGot events name)

-- at moment m each of these puts is claimed, and those that aren't got are at most as many as the
-- gets of the queue that started before and are under way at the end of the list
pub record AllClaimed (events : List Event) (queue m : ℕ) (Puts : PutName → Type 0) : Type 0 where
  pub claimed : (name : PutName) → Puts name → IsClaimed events m name
  pub matched : AtMostAsMany (λ name. Puts name × (¬ IsGot events name)) (IsPending events queue m)

-- the put precedes the one of this queue that starts at position s: it is of the same queue, and an
-- opening token or ended with Done before
abbrev pub Precedes : List (List ℕ) → List Event → ℕ → ℕ → PutName → Type 0
Precedes opening events queue s name = IsFinishedAt opening events queue s name

-- in order, for the get that ends at position e: when it ends, all that precede the put which it
-- has got are claimed
abbrev pub IsInOrderAt : List (List ℕ) → List Event → ℕ → Type 0
IsInOrderAt opening events e = (s seat number queue start : ℕ) (content : List ℕ)
    → IsGetOf events (Of seat number) s e → IsPut events seat number queue content start
    → AllClaimed events queue e (Precedes opening events queue start)

-- in order: no get ends before the get of a put that precedes its own has started, unless a get
-- that is under way at the end may have that put. Nothing precedes an opening token
abbrev pub IsInOrder : List (List ℕ) → List Event → Type 0
IsInOrder opening events = (e : ℕ) → IsInOrderAt opening events e

-- an Empty of this queue is right in a call that starts at position s and ends at position e: there
-- is a moment inside it at which all finished puts are claimed
abbrev pub IsRightWithin : List (List ℕ) → List Event → ℕ → ℕ → ℕ → Type 0
IsRightWithin opening events queue s e =
    (m : ℕ) × (s < m) × (m ≤ e) × AllClaimed events queue m (IsFinishedAt opening events queue m)

-- empty is right, for the Nothing at position e
abbrev pub IsEmptyRightAt : List (List ℕ) → List Event → ℕ → Type 0
IsEmptyRightAt opening events e =
    (s seat queue : ℕ) → IsCall events seat (Get queue) s e Nothing
    → IsRightWithin opening events queue s e

-- empty is right: each Nothing
abbrev pub IsEmptyRight : List (List ℕ) → List Event → Type 0
IsEmptyRight opening events = (e : ℕ) → IsEmptyRightAt opening events e

-- the history is lawful and has the four aspects
pub record HasAspects (opening : List (List ℕ)) (events : List Event) : Type 0 where
  pub lawful : IsLawful events
  pub fresh : IsFresh opening events
  pub once : IsOnce events
  pub in_order : IsInOrder opening events
  pub empty_right : IsEmptyRight opening events
