-- For private calls: what the look-ups of `src/calls.rt` and `src/gets.rt` answer
use Rattle.std.specs.Prelude.{◌≡◌, ℕ, ◌<◌, List, Option, Some, None, slice_get}
use Rattle.scq_hist.specs.Calls.{under_way, IsPut, IsDoneAt, Names, IsGetOf}
use Rattle.scq_hist.specs.declared.events.Call.{Call}
use Rattle.scq_hist.specs.declared.events.Event.{Event}
use Rattle.scq_hist.specs.declared.events.Event.TheVariants.{Start, End}
use Rattle.scq_hist.specs.declared.events.PutName.{PutName}
use Rattle.scq_hist.specs.declared.events.PutName.TheVariants.{Opening, Of}
use Rattle.scq_hist.specs.declared.events.Reply.TheVariants.{Got}

-- a seat starts this call at position s
abbrev pub StartsCall : List Event → ℕ → Call → Type 0
StartsCall events s call = (seat : ℕ) × (slice_get events s ≡ Some (Start seat call))

abbrev pub StartsNoCall : List Event → ℕ → Type 0
StartsNoCall events s = (call : Call) → ¬ StartsCall events s call

-- the seat has this call under way at moment m, which started at position s
pub record HasUnderWay (events : List Event) (seat m s : ℕ) (call : Call) : Type 0 where
  pub is : under_way events seat m ≡ Some s
  pub starts : slice_get events s ≡ Some (Start seat call)

-- the name in an End with Got
abbrev pub got_name : Event → Option PutName
got_name (End _ (Got name _)) = Some name
got_name _ = None

-- the first End with Got that names the put stands at position e
pub record IsFirstNamed (events : List Event) (name : PutName) (e : ℕ) : Type 0 where
  pub names : Names events e name
  pub first : (d : ℕ) → d < e → ¬ Names events d name

-- the seat's put of this number doesn't start before position i
pub record NoPutBefore (events : List Event) (seat number i : ℕ) : Type 0 where
  pub none : (s queue : ℕ) (content : List ℕ) → s < i → ¬ IsPut events seat number queue content s

-- the Start of the call that ends at position e, where this event stands
abbrev pub call_start : List Event → ℕ → Option Event → Option ℕ
call_start events e (Some (End seat _)) = under_way events seat e
call_start events e _ = None

-- no get that has got a put ends at position e
pub record EndsNoGet (events : List Event) (e : ℕ) : Type 0 where
  pub none : (name : PutName) (s : ℕ) → ¬ IsGetOf events name s e

-- this put is one of the queue and ends with Done at position e
abbrev pub EndsDone : List Event → ℕ → ℕ → PutName → Type 0
EndsDone events queue e (Opening _) = ⊥
EndsDone events queue e (Of seat number) = IsDoneAt events queue e seat number

-- no put of this queue ends with Done at position e
pub record NoDoneAt (events : List Event) (queue e : ℕ) : Type 0 where
  pub none : (seat number : ℕ) → ¬ IsDoneAt events queue e seat number
