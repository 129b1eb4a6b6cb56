-- For private calls: the puts that placed on each ring, as maps by place, one for each ring.
use Rattle.std.specs.Prelude.{ℕ, List, Option, slice_get, unwrap_or, option_and_then, nat_eq}
use Rattle.std.specs.HashMap.{get, HashMap}
use Rattle.scq_word.specs.declared.setup.Setup.{Setup}
use Rattle.scq_hist.specs.declared.events.PutName.{PutName}
use Rattle.scq_law.specs.Run.{first_placer}

module _ {S : Type 0} where
  -- the name at a place of a ring, if there is one
  abbrev pub name_at : List (HashMap ℕ PutName S) → ℕ → ℕ → Option PutName
  name_at names r p = option_and_then (λ m. get nat_eq m p) (slice_get names r)

-- the put that placed there: where there is no name, an opening put, or nobody
abbrev pub placer_in : Setup → (ℕ → ℕ → Option PutName) → ℕ → ℕ → PutName
placer_in c names r p = unwrap_or (names r p) (first_placer c r p)
