-- For private calls: where the calls of events started
use Rattle.std.specs.Prelude.{◌≡◌, ℕ, ◌<◌, List, Option, Some, None, length, slice_get, slice_index}
use Rattle.std.specs.Prelude.{unwrap_or}
use Rattle.std.specs.Ordering.{nat_cmp}
use Rattle.std.specs.BTreeMap.{get}
use Rattle.scq_hist.specs.Exports.{under_way}
use Rattle.scq_hist.specs.declared.events.Call.{Call}
use Rattle.scq_hist.specs.declared.events.Event.{Event}
use Rattle.scq_hist.specs.declared.events.Event.TheVariants.{Start, End}
use Rattle.scq_check.specs.declared.calls.Calls.{Calls}

-- where the call of this event at position e started: a Start itself, and of an End what its seat
-- has under way there
abbrev pub own_start : List Event → ℕ → Option Event → ℕ
own_start events e (Some (Start _ _)) = e
own_start events e (Some (End seat _)) = unwrap_or (under_way events seat e) e
own_start events e None = e

-- after the first m events: where the call of each started, and what each seat has under way
pub record IsCalls (events : List Event) (m : ℕ) (calls : Calls) : Type 0 where
  pub many : length calls.starts.items ≡ m
  pub starts : (e : ℕ) → e < m
      → slice_index calls.starts.items e ≡ own_start events e (slice_get events e)
  pub last : (seat : ℕ) → get nat_cmp calls.under_way seat ≡ under_way events seat m

-- the seat has this call under way at moment m
pub record IsCallUnderWay (events : List Event) (seat m : ℕ) (call : Call) : Type 0 where
  pub s : ℕ
  pub is : under_way events seat m ≡ Some s
  pub starts : slice_get events s ≡ Some (Start seat call)
