-- Each seat's events stand in one file
use Rattle.std.specs.Prelude.{◌≡◌, ℕ, ◌<◌, List, Some, slice_get, MatchOption}
use Rattle.std.specs.Ordering.{nat_cmp}
use Rattle.std.specs.BTreeMap.{get}
use Rattle.scq_hist.specs.declared.events.Event.{Event}
use Rattle.scq_hist.specs.declared.events.Event.TheVariants.{Start, End}
use Rattle.scq_judge.specs.declared.recorded.Place.{Place}
use Rattle.scq_judge.specs.declared.recorded.Stamped.{Stamped}
use Rattle.scq_judge.specs.declared.seats.Homes.{Homes}

-- the seat of an event
abbrev pub event_seat : Event → ℕ
event_seat (Start seat call) = seat
event_seat (End seat reply) = seat

-- an event of this seat stands at position i, with this place
pub record EventIsAt (events : List Stamped) (i seat : ℕ) (place : Place) : Type 0 where
  pub event : Stamped
  pub stands : slice_get events i ≡ Some event
  pub seat_is : seat ≡ event_seat event.event
  pub place_is : place ≡ event.place

-- each seat's events stand in one file
abbrev pub EachSeatInOneFile : List Stamped → Type 0
EachSeatInOneFile events =
    (i k seat : ℕ) (a b : Place) → EventIsAt events i seat a → EventIsAt events k seat b
    → a.file ≡ b.file

-- the event of this place, at position i, is of a seat of which another event has the other place,
-- in another file
pub record IsAwayFrom (events : List Stamped) (i : ℕ) (place other : Place) : Type 0 where
  pub k : ℕ
  pub seat : ℕ
  pub here : EventIsAt events i seat place
  pub there : EventIsAt events k seat other
  pub apart : ¬ (other.file ≡ place.file)

-- so it is at some position
abbrev pub HasSeatOfAnother : List Stamped → Place → Place → Type 0
HasSeatOfAnother events place other = (i : ℕ) × IsAwayFrom events i place other

-- For private calls: no event of the seat stands before position i; and those that do stand in the
-- file of this place, which is that of one of them
pub record NoneBefore (events : List Stamped) (i seat : ℕ) : Type 0 where
  pub none : (k : ℕ) (place : Place) → k < i → ¬ EventIsAt events k seat place

pub record IsSeatHome (events : List Stamped) (i seat : ℕ) (home : Place) : Type 0 where
  pub k : ℕ
  pub before : k < i
  pub there : EventIsAt events k seat home
  pub all : (k : ℕ) (place : Place) → k < i → EventIsAt events k seat place → place.file ≡ home.file

-- so of each seat
pub record AreHomes (events : List Stamped) (i : ℕ) (homes : Homes) : Type 0 where
  pub each : (seat : ℕ)
      → MatchOption (get nat_cmp homes.known seat) (NoneBefore events i seat)
      (IsSeatHome events i seat)

-- the event at position i stands in the file of its seat's events before it
abbrev pub IsAtHome : List Stamped → ℕ → Type 0
IsAtHome events i = (k seat : ℕ) (a b : Place) → k < i → EventIsAt events k seat a
    → EventIsAt events i seat b → a.file ≡ b.file

-- the event at position i is of a seat that has one of the other place, in another file
abbrev pub IsAway : List Stamped → ℕ → Place → Type 0
IsAway events i other = (place : Place) × IsAwayFrom events i place other
