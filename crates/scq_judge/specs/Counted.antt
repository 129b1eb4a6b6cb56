-- What a report counts of a history
use Rattle.std.specs.Prelude.{◌≡◌, ℕ, ◌+◌, ◌<◌, ◌≤◌, ◌⊎◌, ◌↔◌, Bool, IsTrue, List, Option, Some}
use Rattle.std.specs.Prelude.{None, is_some, length, slice_get}
use Rattle.std.specs.Ordering.{nat_cmp}
use Rattle.std.specs.BTreeMap.{get}
use Rattle.scq_hist.specs.Exports.{under_way, IsCount}
use Rattle.scq_hist.specs.declared.events.Call.TheVariants.{Put, Get}
use Rattle.scq_hist.specs.declared.events.Event.{Event}
use Rattle.scq_hist.specs.declared.events.Event.TheVariants.{Start}
use Rattle.scq_judge.specs.declared.counting.Named.{Named}
use Rattle.scq_judge.specs.declared.counting.Named.TheVariants.{Seat, Queue}
use Rattle.scq_judge.specs.declared.counting.Seen.{Seen}

-- a call starts at position s
abbrev pub IsStarting : Option Event → Type 0
IsStarting (Some (Start seat call)) = Unit {0}
IsStarting _ = ⊥

abbrev pub IsStartAt : List Event → ℕ → Type 0
IsStartAt events s = IsStarting (slice_get events s)

-- the seat that starts a call by this event, or the queue of the call
abbrev pub named_by : Named → Option Event → Option ℕ
named_by Seat (Some (Start seat call)) = Some seat
named_by Queue (Some (Start seat (Put queue content))) = Some queue
named_by Queue (Some (Start seat (Get queue))) = Some queue
named_by named _ = None

-- some call is one of this seat, or of this queue
pub record IsNamed (named : Named) (events : List Event) (number : ℕ) : Type 0 where
  pub s : ℕ
  pub is : named_by named (slice_get events s) ≡ Some number

-- the seat has a call under way at moment m
pub record IsBusy (events : List Event) (m seat : ℕ) : Type 0 where
  pub s : ℕ
  pub is : under_way events seat m ≡ Some s

-- the call that starts at position s overlaps another: one is under way when it starts, or starts
-- next. (Where neither is so, the next event is its own End, or there is none.)
pub record Overlaps (events : List Event) (s : ℕ) : Type 0 where
  pub start : IsStartAt events s
  pub another : ((seat : ℕ) × IsBusy events s seat) ⊎ IsStartAt events (s + 1)

-- the seat has a call under way at the end of the list: it never ends
abbrev pub NeverEnds : List Event → ℕ → Type 0
NeverEnds events seat = IsBusy events (length events) seat

-- For private calls: what is true of a position before m
abbrev pub Before : (ℕ → Type 0) → ℕ → ℕ → Type 0
Before P m s = (s < m) × P s

-- the first m events name the number; and which they name, and how many
pub record IsNamedBefore (named : Named) (events : List Event) (m number : ℕ) : Type 0 where
  pub s : ℕ
  pub before : s < m
  pub is : named_by named (slice_get events s) ≡ Some number

abbrev pub is_seen : Seen → ℕ → Bool
is_seen seen number = is_some (get nat_cmp seen.numbers number)

pub record AreSeen (named : Named) (events : List Event) (m : ℕ) (seen : Seen)
    (c : ℕ) : Type 0 where
  pub each : (number : ℕ) → IsTrue (is_seen seen number) ↔ IsNamedBefore named events m number
  pub count : IsCount (IsNamedBefore named events m) c
  pub few : c ≤ m

-- so many seats have calls under way at moment m
pub record AreBusy (events : List Event) (m busy : ℕ) : Type 0 where
  pub count : IsCount (IsBusy events m) busy
  pub few : busy ≤ m
