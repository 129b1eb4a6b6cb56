-- How a line's topic is cut while the line comes in.
use Rattle.std.specs.Prelude.{◌≡◌, ◌⊎◌, ℕ, ◌≤◌, List, ◌++◌, length, take, drop}
use Rattle.std.specs.List.{before_first}
use Rattle.scq_topics.specs.Exports.{is_space}

-- of a line's topic the first bytes stayed, this many, and bytes behind them are gone
pub record IsCut (most : ℕ) (old new : List ℕ) : Type 0 where
  pub to : ℕ
  pub behind : most ≤ to
  pub within : to ≤ length (before_first is_space old)
  pub after : new ≡ take most old ++ drop to old

-- a line is what it was, or its topic was cut
abbrev pub IsTrimmed : ℕ → List ℕ → List ℕ → Type 0
IsTrimmed most old new = (new ≡ old) ⊎ IsCut most old new
