-- The first of some numbered things at which a fact fails
use Rattle.std.specs.Prelude.{ℕ, ◌<◌, Option, Some, None}

-- none where the fact holds of each, else the first of which it doesn't hold
abbrev pub IsFirstFailing : (ℕ → Type 0) → Option ℕ → Type 0
IsFirstFailing Holds None = (e : ℕ) → Holds e
IsFirstFailing Holds (Some e) = (¬ Holds e) × ((d : ℕ) → d < e → Holds d)
