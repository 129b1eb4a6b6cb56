-- The word of an entry, in a ring of m slots: m is twice the number of indices, and the mark m - 1
-- says "no index". From the lowest bit on: the index or the mark, the safe bit, the cycle.
use Rattle.std.specs.Prelude.{ℕ, ◌+◌, ◌-◌, ◌*◌, ◌/◌, ◌%◌, Bool, ◌==◌, if◌then◌else◌}

-- the mark "no index": all the bits of an index
abbrev pub mark_of : ℕ → ℕ
mark_of m = m - 1

-- the word of a cycle, a safe bit and an index or the mark
unfoldable pub packed : ℕ → ℕ → ℕ → ℕ → ℕ
packed m cycle safe index = cycle * (2 * m) + safe * m + index

-- the index, or the mark
unfoldable pub index_in : ℕ → ℕ → ℕ
index_in m word = word % m

-- 1 where the entry is safe, else 0
unfoldable pub safe_in : ℕ → ℕ → ℕ
safe_in m word = word / m % 2

-- the round of the ring that the entry belongs to
unfoldable pub cycle_in : ℕ → ℕ → ℕ
cycle_in m word = word / m / 2

-- whether no index stands in it
abbrev pub is_none_in : ℕ → ℕ → Bool
is_none_in m word = index_in m word == mark_of m

-- what every change of an entry raises: three for each cycle, and 0 with an index while safe, 1
-- with an index that was marked unsafe, 2 without an index
unfoldable pub rank_in : ℕ → ℕ → ℕ
rank_in m word =
    3 * cycle_in m word + (if is_none_in m word then 2 else (if safe_in m word == 1 then 0 else 1))
