-- What was written to a sink, where it is visible.
use Rattle.std.specs.Prelude.{◌≡◌, ℕ, List, ◌++◌, Option, take}
use Rattle.std.specs.Option.{option_map}

-- what a sink has once these bytes were written behind what it had, where that is visible
abbrev pub written_with : Option (List ℕ) → List ℕ → Option (List ℕ)
written_with written bytes = option_map (λ before. before ++ bytes) written

-- some of these bytes were written, from their front
pub record WrotePart (old new : Option (List ℕ)) (bytes : List ℕ) : Type 0 where
  pub count : ℕ
  pub written : new ≡ written_with old (take count bytes)
