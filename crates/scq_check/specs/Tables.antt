-- For private calls: what the tables of a history answer
use Rattle.std.specs.Prelude.{◌≡◌, ◌<◌, ℕ, suc, List, Option, Some, None, length, slice_get}
use Rattle.scq_hist.specs.Exports.{IsLawful, under_way, IsCall, IsPending, NoDoneAt}
use Rattle.scq_hist.specs.declared.ended.EndedPut.{EndedPut}
use Rattle.scq_hist.specs.declared.events.Call.{Call}
use Rattle.scq_hist.specs.declared.events.Call.TheVariants.{Put, Get}
use Rattle.scq_hist.specs.declared.events.Event.{Event}
use Rattle.scq_hist.specs.declared.events.Event.TheVariants.{Start, End}
use Rattle.scq_hist.specs.declared.events.Reply.{Reply}
use Rattle.scq_hist.specs.declared.events.Reply.TheVariants.{Spent}
use Rattle.scq_check.specs.Calls.{IsCalls}
use Rattle.scq_check.specs.Gots.{IsGots}
use Rattle.scq_check.specs.Puts.{IsPuts}
use Rattle.scq_check.specs.declared.tables.Tables.{Tables}

-- the tables hold what they say of the whole list
pub record IsTables (events : List Event) (tables : Tables) : Type 0 where
  pub calls : IsCalls events (length events) tables.calls
  pub puts : IsPuts events (length events) tables.puts
  pub gots : IsGots events (length events) tables.gots

-- the tables are those of a lawful history
pub record AreOfLawful (events : List Event) (made : Tables) : Type 0 where
  pub tables : IsTables events made
  pub lawful : IsLawful events

-- and it has an event at position e
pub record HasEvent (events : List Event) (made : Tables) (e : ℕ) : Type 0 where
  pub tables : IsTables events made
  pub lawful : IsLawful events
  pub within : e < length events

-- the event at position e, a Start or an End of the seat, is of the call that starts at position s
abbrev pub IsOf : List Event → ℕ → ℕ → ℕ → Option Event → Type 0
IsOf events seat s e (Some (Start k _)) = (k ≡ seat) × (s ≡ e)
IsOf events seat s e (Some (End k _)) = (k ≡ seat) × (under_way events seat e ≡ Some s)
IsOf events seat s e None = ⊥

-- the event at position e is of this call, which starts at position s
pub record IsCallOf (events : List Event) (e s : ℕ) (call : Call) : Type 0 where
  pub seat : ℕ
  pub starts : slice_get events s ≡ Some (Start seat call)
  pub own : IsOf events seat s e (slice_get events e)

-- this put ends with Spent at position e
pub record IsRefusalAt (events : List Event) (e : ℕ) (put : EndedPut) : Type 0 where
  pub content : List ℕ
  pub call : IsCall events put.seat (Put put.queue content) put.start e Spent

-- the event at position e is of a call of this queue: so is a put that starts there and a get that
-- starts or ends there, and no put of another queue ends with Done there, nor does a get of another
-- start there that never ends
pub record IsQueueOf (events : List Event) (e queue : ℕ) : Type 0 where
  pub put : (seat q : ℕ) (content : List ℕ) → slice_get events e ≡ Some (Start seat (Put q content))
      → q ≡ queue
  pub starts : (seat q : ℕ) → slice_get events e ≡ Some (Start seat (Get q)) → q ≡ queue
  pub get : (seat q s : ℕ) (reply : Reply) → IsCall events seat (Get q) s e reply → q ≡ queue
  pub no_done : (q : ℕ) → ¬ (q ≡ queue) → NoDoneAt events q e
  pub no_get : (q : ℕ) → ¬ (q ≡ queue) → ¬ IsPending events q (suc e) e
