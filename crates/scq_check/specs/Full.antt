-- A sixth verdict, where it is known for how many values each queue has room: a put that was
-- refused found no place free, and the queue never holds more. Places are counted as tokens are: an
-- opening token has one, a put that wasn't refused takes one at the earliest when it starts, and a
-- get that has got a put gives one back at the latest when it ends. A put that is answered Done has
-- one at the latest when it ends, and a get gives one back at the earliest when it starts
use Rattle.std.specs.Prelude.{◌≡◌, ◌↔◌, ℕ, suc, ◌+◌, ◌<◌, ◌≤◌, ◌⊎◌, ◌==◌, if◌then◌else◌, List, Some}
use Rattle.std.specs.Prelude.{length, slice_get, slice_index_or, unwrap_or, true, false, Bool}
use Rattle.std.specs.Prelude.{IsTrue}
use Rattle.std.specs.Ordering.{nat_cmp}
use Rattle.std.specs.BTreeMap.{get}
use Rattle.scq_hist.specs.Exports.{IsCall, IsPut, IsDoneAt, IsPending, Names, IsCount}
use Rattle.scq_hist.specs.declared.events.Call.TheVariants.{Put, Get}
use Rattle.scq_hist.specs.declared.events.Event.{Event}
use Rattle.scq_hist.specs.declared.events.Event.TheVariants.{Start}
use Rattle.scq_hist.specs.declared.events.PutName.{PutName}
use Rattle.scq_hist.specs.declared.events.PutName.TheVariants.{Of}
use Rattle.scq_hist.specs.declared.events.Reply.TheVariants.{Got, Spent}
use Rattle.scq_check.specs.Refused.{IsRefused, IsRefusals}
use Rattle.scq_check.specs.declared.full.Known.{Known}
use Rattle.scq_check.specs.declared.full.Places.{Places}
use Rattle.scq_check.specs.declared.full.AllPlaces.{AllPlaces}

-- a put of this queue starts at position s that wasn't refused: from then on it may have a place
pub record IsTaking (events : List Event) (queue s : ℕ) : Type 0 where
  pub seat : ℕ
  pub number : ℕ
  pub content : List ℕ
  pub put : IsPut events seat number queue content s
  pub accepted : ¬ IsRefused events (Of seat number)

-- a get of this queue ends at position e and is the first to have got its put: from then on the
-- place of that is free
pub record IsFreeing (events : List Event) (queue e : ℕ) : Type 0 where
  pub seat : ℕ
  pub s : ℕ
  pub name : PutName
  pub content : List ℕ
  pub call : IsCall events seat (Get queue) s e (Got name content)
  pub first : (d : ℕ) → d < e → ¬ Names events d name

-- so before position m
abbrev pub HoldsBefore : (ℕ → Type 0) → ℕ → ℕ → Type 0
HoldsBefore P m i = (i < m) × P i

-- the opening tokens have places in queue 0
abbrev pub held_at_start : List (List ℕ) → ℕ → ℕ
held_at_start opening queue = if queue == 0 then length opening else 0

-- at moment m the queue may have been full: its room, and the places that were given back for
-- certain by then, are at most the places that were held at the start, and that may have been taken
-- by then
pub record MayBeFullAt (room : ℕ) (opening : List (List ℕ)) (events : List Event)
    (queue m : ℕ) : Type 0 where
  pub taken : ℕ
  pub freed : ℕ
  pub takes : IsCount (HoldsBefore (IsTaking events queue) m) taken
  pub frees : IsCount (HoldsBefore (IsFreeing events queue) m) freed
  pub full : room + freed ≤ held_at_start opening queue + taken

-- so at a moment inside a call that starts at position s and ends at position e
abbrev pub IsFullWithin : ℕ → List (List ℕ) → List Event → ℕ → ℕ → ℕ → Type 0
IsFullWithin room opening events queue s e =
    (m : ℕ) × (s < m) × (m ≤ e) × MayBeFullAt room opening events queue m

-- refused rightly, for the put that ends with Spent at position e
abbrev pub IsFullRightAt : ℕ → List (List ℕ) → List Event → ℕ → Type 0
IsFullRightAt room opening events e = (s seat queue : ℕ) (content : List ℕ)
    → IsCall events seat (Put queue content) s e Spent → IsFullWithin room opening events queue s e

-- a put of this queue ends with Done at position e: from then on it has a place, or was got
pub record IsFilling (events : List Event) (queue e : ℕ) : Type 0 where
  pub seat : ℕ
  pub number : ℕ
  pub done : IsDoneAt events queue e seat number

-- a get of this queue starts at position s that gets something
pub record IsGetting (events : List Event) (queue s : ℕ) : Type 0 where
  pub seat : ℕ
  pub e : ℕ
  pub name : PutName
  pub content : List ℕ
  pub call : IsCall events seat (Get queue) s e (Got name content)

-- or one that never ends: from then on it may have given a place back
abbrev pub IsEmptying : List Event → ℕ → ℕ → Type 0
IsEmptying events queue s = IsGetting events queue s ⊎ IsPending events queue (suc s) s

-- at moment m the queue may hold no more than it has room for: the places that were held at the
-- start, and those of the puts that were answered Done by then, are at most its room and the gets
-- that had begun by then and get something or never end
pub record MayFitAt (room : ℕ) (opening : List (List ℕ)) (events : List Event)
    (queue m : ℕ) : Type 0 where
  pub done : ℕ
  pub begun : ℕ
  pub fills : IsCount (HoldsBefore (IsFilling events queue) m) done
  pub empties : IsCount (HoldsBefore (IsEmptying events queue) m) begun
  pub fits : held_at_start opening queue + done ≤ room + begun

-- never over, for the put that is answered Done at position e: just after it the queue may hold no
-- more than it has room for
abbrev pub IsFittingAt : ℕ → List (List ℕ) → List Event → ℕ → Type 0
IsFittingAt room opening events e =
    (queue : ℕ) → IsFilling events queue e → MayFitAt room opening events queue (e + 1)

-- the room is kept, for the event at position e: if a put is refused there, rightly, and if one is
-- answered Done there, the queue isn't over-full
pub record KeepsRoomAt (room : ℕ) (opening : List (List ℕ)) (events : List Event)
    (e : ℕ) : Type 0 where
  pub full : IsFullRightAt room opening events e
  pub fits : IsFittingAt room opening events e

-- For private calls: a put of this queue starts at position s by this seat; and none does
pub record IsPutAt (events : List Event) (queue s seat : ℕ) : Type 0 where
  pub content : List ℕ
  pub starts : slice_get events s ≡ Some (Start seat (Put queue content))

pub record NoPutAt (events : List Event) (queue s : ℕ) : Type 0 where
  pub none : (seat : ℕ) (content : List ℕ)
      → ¬ (slice_get events s ≡ Some (Start seat (Put queue content)))

-- a get of this queue starts at position s by this seat; and none does
pub record IsGetAt (events : List Event) (queue s seat : ℕ) : Type 0 where
  pub starts : slice_get events s ≡ Some (Start seat (Get queue))

pub record NoGetAt (events : List Event) (queue s : ℕ) : Type 0 where
  pub none : (seat : ℕ) → ¬ (slice_get events s ≡ Some (Start seat (Get queue)))

-- at position s a get starts that gets something by an End before position m
pub record GetsBy (events : List Event) (m s : ℕ) : Type 0 where
  pub queue : ℕ
  pub getting : IsGetting events queue s
  pub before : getting.e < m

-- for each position whether such a get starts there
pub record AreGetters (events : List Event) (m : ℕ) (flags : List Bool) : Type 0 where
  pub many : length flags ≡ length events
  pub each : (s : ℕ) → s < length events
      → IsTrue (slice_index_or flags s false) ↔ GetsBy events m s

-- what is looked up beside the tables
pub record AreKnown (events : List Event) (known : Known) : Type 0 where
  pub refusals : IsRefusals events (length events) known.refusals
  pub getters : AreGetters events (length events) known.getters.items

-- by its numbers no place of the queue is free for certain
abbrev pub IsUsedUp : ℕ → List (List ℕ) → ℕ → Places → Type 0
IsUsedUp room opening queue places =
    room + places.freed ≤ held_at_start opening queue + places.taken

-- by its numbers the queue holds no more than it has room for, with one put more that is answered
-- Done
abbrev pub HasPlace : ℕ → List (List ℕ) → ℕ → Places → Type 0
HasPlace room opening queue places =
    held_at_start opening queue + places.done + 1 ≤ room + places.begun

-- a number, or one more
abbrev pub one_more_if : ℕ → Bool → ℕ
one_more_if n true = n + 1
one_more_if n false = n

-- before any event
abbrev pub untouched : Places
untouched = record { taken = 0; freed = 0; done = 0; begun = 0; full_till = 0 }

-- what is kept of a queue
abbrev pub places_in : AllPlaces → ℕ → Places
places_in all queue = unwrap_or (get nat_cmp all.known queue) untouched

-- a moment up to m at which no place was free
pub record IsFullBy (room : ℕ) (opening : List (List ℕ)) (events : List Event)
    (queue m k : ℕ) : Type 0 where
  pub by : k ≤ m
  pub full : MayBeFullAt room opening events queue k

-- what is known of the places of the queue at moment m
pub record ArePlacesOf (room : ℕ) (opening : List (List ℕ)) (events : List Event) (queue m : ℕ)
    (places : Places) : Type 0 where
  pub takes : IsCount (HoldsBefore (IsTaking events queue) m) places.taken
  pub frees : IsCount (HoldsBefore (IsFreeing events queue) m) places.freed
  pub few_taken : places.taken ≤ m
  pub few_freed : places.freed ≤ m
  pub fills : IsCount (HoldsBefore (IsFilling events queue) m) places.done
  pub empties : IsCount (HoldsBefore (IsEmptying events queue) m) places.begun
  pub few_done : places.done ≤ m
  pub few_begun : places.begun ≤ m
  pub full : 0 < places.full_till → IsFullBy room opening events queue m places.full_till
  pub last : (k : ℕ) → k ≤ m → MayBeFullAt room opening events queue k
      → (k ≤ places.full_till) ⊎ IsUsedUp room opening queue places

-- so of each queue
pub record ArePlacesAt (room : ℕ) (opening : List (List ℕ)) (events : List Event) (m : ℕ)
    (all : AllPlaces) : Type 0 where
  pub each : (queue : ℕ) → ArePlacesOf room opening events queue m (places_in all queue)
