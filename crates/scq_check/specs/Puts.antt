-- For private calls: the numbers of puts, and where they start
use Rattle.std.specs.Prelude.{◌≡◌, ℕ, suc, ◌<◌, List, Option, Some, length, slice_get, slice_index}
use Rattle.std.specs.Prelude.{unwrap_or, MatchOption}
use Rattle.std.specs.Ordering.{nat_cmp}
use Rattle.std.specs.BTreeMap.{get}
use Rattle.scq_hist.specs.Exports.{puts_before, IsPut, NoPutBefore}
use Rattle.scq_hist.specs.declared.events.Call.TheVariants.{Put}
use Rattle.scq_hist.specs.declared.events.Event.{Event}
use Rattle.scq_hist.specs.declared.events.Event.TheVariants.{Start}
use Rattle.scq_check.specs.ByName.{place_in}
use Rattle.scq_check.specs.declared.puts.Puts.{Puts}

-- the number of the put that this event at position e starts, else 0
abbrev pub put_number : List Event → ℕ → Option Event → ℕ
put_number events e (Some (Start seat (Put _ _))) = suc (puts_before events seat e)
put_number events e _ = 0

-- the event is the Start of a put of this seat
pub record IsPutStart (event : Event) (seat : ℕ) : Type 0 where
  pub queue : ℕ
  pub content : List ℕ
  pub is : event ≡ Start seat (Put queue content)

-- the event is the Start of no put
pub record StartsNoPut (event : Event) : Type 0 where
  pub none : (seat queue : ℕ) (content : List ℕ) → ¬ (event ≡ Start seat (Put queue content))

-- the seat's put of this number starts at position s
pub record StartsPut (events : List Event) (seat number s : ℕ) : Type 0 where
  pub queue : ℕ
  pub content : List ℕ
  pub put : IsPut events seat number queue content s

-- after the first m events: the number of each put, how many each seat began, and where the put of
-- each name starts
pub record IsPuts (events : List Event) (m : ℕ) (puts : Puts) : Type 0 where
  pub many : length puts.numbers.items ≡ m
  pub numbers : (e : ℕ) → e < m
      → slice_index puts.numbers.items e ≡ put_number events e (slice_get events e)
  pub counts : (seat : ℕ) → unwrap_or (get nat_cmp puts.counts seat) 0 ≡ puts_before events seat m
  pub starts : (seat number : ℕ)
      → MatchOption (place_in puts.starts seat number) (NoPutBefore events seat number m)
      (StartsPut events seat number)
