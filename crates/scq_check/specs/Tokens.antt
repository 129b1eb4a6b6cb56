-- A verdict on opening tokens beside the four aspects: they are got in their order
use Rattle.std.specs.Prelude.{◌≡◌, ℕ, ◌<◌, List, Some, length, slice_get}
use Rattle.scq_hist.specs.Exports.{IsGetOf, AllClaimed, IsTally}
use Rattle.scq_hist.specs.declared.events.Event.{Event}
use Rattle.scq_hist.specs.declared.events.PutName.{PutName}
use Rattle.scq_hist.specs.declared.events.PutName.TheVariants.{Opening}
use Rattle.scq_hist.specs.declared.tallies.Tally.{Tally}

-- an opening token before number j
abbrev pub IsTokenBelow : ℕ → PutName → Type 0
IsTokenBelow j name = (i : ℕ) × (i < j) × (name ≡ Opening i)

-- opening in order, for the get that ends at position e: when it ends, all opening tokens before
-- the one that it has got are claimed
abbrev pub IsTokenInOrderAt : List (List ℕ) → List Event → ℕ → Type 0
IsTokenInOrderAt opening events e = (s j : ℕ) → j < length opening
    → IsGetOf events (Opening j) s e → AllClaimed events 0 e (IsTokenBelow j)

-- For private calls: the get that ends at position e has got the opening token of this number
pub record IsGetOfToken (opening : List (List ℕ)) (events : List Event) (e number : ℕ)
    : Type 0 where
  pub token : number < length opening
  pub s : ℕ
  pub get : IsGetOf events (Opening number) s e

-- for each of the first m tokens the tally of those before it
pub record AreTokenTallies (events : List Event) (m : ℕ) (tallies : List Tally) : Type 0 where
  pub many : length tallies ≡ m
  pub below : (j : ℕ) (tally : Tally) → slice_get tallies j ≡ Some tally
      → IsTally events (IsTokenBelow j) tally.ungot tally.claimed_from
