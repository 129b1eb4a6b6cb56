-- The numbers of buffers, as bytes.
use Rattle.std.specs.Prelude.{ℕ, zero, suc, List, [], ◌∷◌, ◌++◌}
use Rattle.std.specs.Int.{w32, to_le_bytes}

-- a number in four bytes, the lowest first
abbrev pub four_bytes : ℕ → List ℕ
four_bytes i = to_le_bytes w32 i

-- the numbers below one, in order
abbrev pub numbers_below : ℕ → List (List ℕ)
numbers_below zero = []
numbers_below (suc k) = numbers_below k ++ four_bytes k ∷ []
