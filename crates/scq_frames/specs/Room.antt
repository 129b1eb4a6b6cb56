-- How a window's room is read into.
use Rattle.std.specs.Prelude.{◌≡◌, ℕ, ◌+◌, ◌≤◌, List, ◌++◌, Option, length, slice_range, take}
use Rattle.std.specs.Option.{option_map}
use Rattle.scq_frames.specs.Framing.{NothingLeft}

-- the room has its length, and what stands in front of this position
pub record IsSameBefore (at : ℕ) (old new : List ℕ) : Type 0 where
  pub before : take at new ≡ take at old
  pub len : length new ≡ length old

-- so many bytes, at most `most`, came to this position from the front of what was left: no byte
-- only where nothing was left
pub record CameTo (at most : ℕ) (room : List ℕ) (before after : Option (List ℕ)) (k : ℕ)
    : Type 0 where
  pub few : k ≤ most
  pub moved : before ≡ option_map (λ rest. slice_range room at (at + k) ++ rest) after
  pub end : k ≡ 0 → NothingLeft before
