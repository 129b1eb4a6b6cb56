-- For private calls. Of some puts: how many no End has got, and from which moment on the others are
-- claimed
use Rattle.std.specs.Prelude.{◌≡◌, ℕ, ◌+◌, ◌<◌, ◌≤◌, ◌⊎◌, max, List, length}
use Rattle.scq_hist.specs.Calls.{IsCall, IsPut, IsGot, IsGetOf}
use Rattle.scq_hist.specs.declared.events.Call.TheVariants.{Get}
use Rattle.scq_hist.specs.declared.events.Reply.TheVariants.{Nothing}
use Rattle.scq_hist.specs.Counts.{IsCount}
use Rattle.scq_hist.specs.declared.events.Event.{Event}
use Rattle.scq_hist.specs.declared.events.PutName.{PutName}
use Rattle.scq_hist.specs.declared.events.PutName.TheVariants.{Opening, Of}

-- one of these puts is got by a get that doesn't start before moment m
pub record HasLateGet (events : List Event) (Puts : PutName → Type 0) (m : ℕ) : Type 0 where
  pub name : PutName
  pub s : ℕ
  pub e : ℕ
  pub put : Puts name
  pub get : IsGetOf events name s e
  pub late : m ≤ s

-- u of these puts aren't got, and f is the first moment by which the gets of the others have
-- started
pub record IsTally (events : List Event) (Puts : PutName → Type 0) (u f : ℕ) : Type 0 where
  pub ungot : IsCount (λ name. Puts name × (¬ IsGot events name)) u
  pub claimed : (name : PutName) (s e : ℕ) → Puts name → IsGetOf events name s e → s < f
  pub least : (m : ℕ) → m < f → HasLateGet events Puts m

-- a put more, which isn't got
pub record AddsUngot (events : List Event) (name : PutName) (u f v g : ℕ) : Type 0 where
  pub ungot : ¬ IsGot events name
  pub more : v ≡ u + 1
  pub same : g ≡ f

-- a put more, which is got
pub record AddsGot (events : List Event) (name : PutName) (u f v g : ℕ) : Type 0 where
  pub s : ℕ
  pub e : ℕ
  pub get : IsGetOf events name s e
  pub same : v ≡ u
  pub later : g ≡ max f (s + 1)

abbrev pub AddsPut : List Event → PutName → ℕ → ℕ → ℕ → ℕ → Type 0
AddsPut events name u f v g = AddsUngot events name u f v g ⊎ AddsGot events name u f v g

-- the get that ends at position e started at s and has got an opening token
pub record IsTokenGotAt (opening : List (List ℕ)) (events : List Event) (e s : ℕ) : Type 0 where
  pub number : ℕ
  pub token : number < length opening
  pub get : IsGetOf events (Opening number) s e

pub record NoTokenGotAt (opening : List (List ℕ)) (events : List Event) (e : ℕ) : Type 0 where
  pub none : (number s : ℕ) → number < length opening → ¬ IsGetOf events (Opening number) s e

-- the get that ends at position e has got a seat's put of this queue, which starts at position
-- `start`
pub record IsPutGotAt (events : List Event) (e queue start : ℕ) : Type 0 where
  pub s : ℕ
  pub seat : ℕ
  pub number : ℕ
  pub content : List ℕ
  pub get : IsGetOf events (Of seat number) s e
  pub put : IsPut events seat number queue content start

pub record NoPutGotAt (events : List Event) (e : ℕ) : Type 0 where
  pub none : (s seat number queue start : ℕ) (content : List ℕ)
      → IsGetOf events (Of seat number) s e → IsPut events seat number queue content start → ⊥

-- a get of this queue that starts at position s ends with Nothing at position e
pub record IsEmptyAt (events : List Event) (e queue s : ℕ) : Type 0 where
  pub seat : ℕ
  pub call : IsCall events seat (Get queue) s e Nothing

pub record NoEmptyAt (events : List Event) (e : ℕ) : Type 0 where
  pub none : (s seat queue : ℕ) → ¬ IsCall events seat (Get queue) s e Nothing
