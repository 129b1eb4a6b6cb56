-- Where the first line of some bytes ends.
use Rattle.std.specs.Prelude.{◌≡◌, ◌≢◌, ℕ, ◌<◌, ◌≤◌, List, length, slice_index}

-- no byte from one position up to another is LF
abbrev pub HasNoLineFeed : List ℕ → ℕ → ℕ → Type 0
HasNoLineFeed bytes from to = (k : ℕ) → from ≤ k → k < to → slice_index bytes k ≢ 10

-- the first LF stands behind this many bytes
pub record EndsAt (bytes : List ℕ) (len : ℕ) : Type 0 where
  pub within : len < length bytes
  pub line_feed : slice_index bytes len ≡ 10
  pub before : HasNoLineFeed bytes 0 len
