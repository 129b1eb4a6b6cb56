-- The sum of a number over the numbers below another.
use Rattle.std.specs.Prelude.{ℕ, zero, suc, ◌+◌}

abbrev pub sum_to : (ℕ → ℕ) → ℕ → ℕ
sum_to f zero = 0
sum_to f (suc n) = f n + sum_to f n
