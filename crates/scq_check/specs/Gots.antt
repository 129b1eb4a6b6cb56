-- For private calls: the first Got that names each put
use Rattle.std.specs.Prelude.{◌≡◌, ℕ, ◌<◌, Bool, false, ◌==◌, List, Option, MatchOption}
use Rattle.std.specs.Ordering.{nat_cmp}
use Rattle.std.specs.BTreeMap.{get}
use Rattle.scq_hist.specs.Exports.{Names, IsFirstNamed}
use Rattle.scq_hist.specs.declared.events.Event.{Event}
use Rattle.scq_hist.specs.declared.events.Event.TheVariants.{End}
use Rattle.scq_hist.specs.declared.events.PutName.{PutName}
use Rattle.scq_hist.specs.declared.events.PutName.TheVariants.{Opening, Of}
use Rattle.scq_hist.specs.declared.events.Reply.TheVariants.{Got}
use Rattle.scq_check.specs.ByName.{same_name, place_in}
use Rattle.scq_check.specs.declared.gots.Gots.{Gots}

abbrev pub is_same_put : PutName → PutName → Bool
is_same_put (Opening i) (Opening j) = i == j
is_same_put (Of k n) (Of l m) = same_name (k, n) (l, m)
is_same_put _ _ = false

-- the position that is kept of a name
abbrev pub found_in : Gots → PutName → Option ℕ
found_in gots (Opening number) = get nat_cmp gots.of_tokens number
found_in gots (Of seat number) = place_in gots.of_seats seat number

-- none of the first m events is an End with Got that names the put
pub record NotNamed (events : List Event) (m : ℕ) (name : PutName) : Type 0 where
  pub none : (d : ℕ) → d < m → ¬ Names events d name

-- after the first m events: the first Got that names each put
pub record IsGots (events : List Event) (m : ℕ) (gots : Gots) : Type 0 where
  pub first : (name : PutName)
      → MatchOption (found_in gots name) (NotNamed events m name) (IsFirstNamed events name)

-- the event is an End with Got of this name and content
pub record IsGotOf (event : Event) (name : PutName) (content : List ℕ) : Type 0 where
  pub seat : ℕ
  pub is : event ≡ End seat (Got name content)

-- the event is no End with Got
pub record IsNoGot (event : Event) : Type 0 where
  pub none : (seat : ℕ) (name : PutName) (content : List ℕ)
      → ¬ (event ≡ End seat (Got name content))
