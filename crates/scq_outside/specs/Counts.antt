-- Counts of calls that failed or found the end: where they stand still.
use Rattle.std.specs.Prelude.{◌≡◌, ℕ, ◌+◌, ◌-◌, ◌^◌, min}

-- where such a count stands still
abbrev pub last_count : ℕ
last_count = 2 ^ 64 - 1

-- the count after one more
abbrev pub one_more : ℕ → ℕ
one_more count = min (count + 1) last_count

-- the count rose in a call, by one, or stands where it stands still
abbrev pub Rose : ℕ → ℕ → Type 0
Rose old new = new ≡ one_more old

-- a count rose in a call where what it counts happened, and else it is what it was
pub record RoseWhere (happened : Type 0) (old new : ℕ) : Type 0 where
  pub rose : happened → Rose old new
  pub kept : (happened → ⊥) → new ≡ old
