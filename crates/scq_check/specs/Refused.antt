-- A fifth verdict beside the four aspects: no Got names a put that its queue refused
use Rattle.std.specs.Prelude.{◌≡◌, ℕ, ◌<◌, List, Some, MatchOption}
use Rattle.scq_hist.specs.Exports.{IsCall, IsPut, Names, got_name}
use Rattle.scq_hist.specs.declared.events.Call.TheVariants.{Put}
use Rattle.scq_hist.specs.declared.events.Event.{Event}
use Rattle.scq_hist.specs.declared.events.PutName.{PutName}
use Rattle.scq_hist.specs.declared.events.PutName.TheVariants.{Opening, Of}
use Rattle.scq_hist.specs.declared.events.Reply.TheVariants.{Spent}
use Rattle.scq_check.specs.ByName.{place_in}
use Rattle.scq_check.specs.declared.by_name.ByName.{ByName}

-- the seat's put of this number ends with Spent at position e
pub record IsSpentAt (events : List Event) (seat number e : ℕ) : Type 0 where
  pub s : ℕ
  pub queue : ℕ
  pub content : List ℕ
  pub put : IsPut events seat number queue content s
  pub call : IsCall events seat (Put queue content) s e Spent

-- the put was refused: it ended with Spent
abbrev pub IsRefused : List Event → PutName → Type 0
IsRefused events (Opening number) = ⊥
IsRefused events (Of seat number) = (e : ℕ) × IsSpentAt events seat number e

-- accepted, for the Got at position e: the put that it names wasn't refused
abbrev pub IsAcceptedAt : List Event → ℕ → Type 0
IsAcceptedAt events e = (name : PutName) → Names events e name → ¬ IsRefused events name

-- For private calls: the seat's put of this number doesn't end with Spent before position m
pub record NotSpentBefore (events : List Event) (m seat number : ℕ) : Type 0 where
  pub none : (e : ℕ) → e < m → ¬ IsSpentAt events seat number e

-- the event is no Got that names a seat's put
pub record NamesNoPut (event : Event) : Type 0 where
  pub none : (seat number : ℕ) → ¬ (got_name event ≡ Some (Of seat number))

-- after the first m events: where each put that ended with Spent did
pub record IsRefusals (events : List Event) (m : ℕ) (names : ByName) : Type 0 where
  pub each : (seat number : ℕ)
      → MatchOption (place_in names seat number) (NotSpentBefore events m seat number)
      (IsSpentAt events seat number)
