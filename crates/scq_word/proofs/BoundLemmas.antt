-- What everything above uses of the reset value.
use Rattle.std.proofs.Common.{ℕ, ◌+◌, ◌^◌, ◌<◌, ◌≤◌, arith, pow_mono}
use Rattle.scq_word.specs.Exports.{n_of, slots_of, reset_value, most_order}

-- it reaches over the window
pub reset_covers : (order seats : ℕ) → 1 ≤ order → n_of order + 1 ≤ reset_value order seats
unfolding reset_value
reset_covers order seats some = let low : 2 ^ 1 ≤ 2 ^ order = pow_mono some in omega arith

-- and over every seat
pub reset_reaches : (order seats : ℕ) → slots_of order + seats ≤ reset_value order seats + 1
unfolding reset_value
reset_reaches order seats = omega arith

-- and is small
pub reset_small : (order seats : ℕ) → order ≤ most_order → seats ≤ 4096 → reset_value order seats < 2 ^ 18
unfolding reset_value
reset_small order seats few low = let high : 2 ^ order ≤ 2 ^ most_order = pow_mono few in omega arith
