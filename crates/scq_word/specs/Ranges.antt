-- The ranges that the numbers of a setup are tested for.
use Rattle.std.specs.Prelude.{ℕ, ◌<◌, ◌≤◌, ◌⊎◌}

-- from low to high, both among them
abbrev pub IsWithin : ℕ → ℕ → ℕ → Type 0
IsWithin low high x = (low ≤ x) × (x ≤ high)

-- below low or above high
abbrev pub IsOutside : ℕ → ℕ → ℕ → Type 0
IsOutside low high x = (x < low) ⊎ (high < x)
