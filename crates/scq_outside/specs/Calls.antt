-- How the calls of an object in memory go. They are numbered from 1.
use Rattle.std.specs.Prelude.{ℕ, ◌+◌, Bool, ◌==◌, nat_lt, List, min, slice_index_or}
use Rattle.std.specs.List.{list_all, list_any}
use Rattle.scq_outside.specs.Counts.{last_count}

-- the most bytes that each call moves, as far as that is said, which calls fail, and how many were
-- made
pub record Calls : Type 0 where
  pub pieces : List ℕ
  pub fails : List ℕ
  pub made : ℕ

-- a call that doesn't fail moves at least one byte
abbrev pub are_pieces : List ℕ → Bool
are_pieces pieces = list_all (nat_lt 0) pieces

-- before the first call
abbrev pub first_call : List ℕ → List ℕ → Calls
first_call pieces fails = record { pieces = pieces; fails = fails; made = 0 }

-- the number of the next call: numbers stand still at the last value of a u64
abbrev pub next_call_number : Calls → ℕ
next_call_number calls = min (calls.made + 1) last_count

-- after the next call
abbrev pub next_call : Calls → Calls
next_call calls = record calls { made = next_call_number calls }

-- the next call fails
abbrev pub fails_next : Calls → Bool
fails_next calls = list_any (λ k. k == next_call_number calls) calls.fails

-- the most bytes that the next call moves, where so many are wanted
abbrev pub granted : Calls → ℕ → ℕ
granted calls wanted = min wanted (slice_index_or calls.pieces calls.made wanted)
