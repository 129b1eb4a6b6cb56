-- The sizes that an order gives.
use Rattle.std.specs.Prelude.{ℕ, ◌*◌, ◌^◌}

-- the number of indices
abbrev pub n_of : ℕ → ℕ
n_of order = 2 ^ order

-- the number of slots of a ring
abbrev pub slots_of : ℕ → ℕ
slots_of order = 2 * n_of order
