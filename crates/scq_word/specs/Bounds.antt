-- What depends on a ring's order and on the number of seats alone: what Threshold is reset to, how
-- many tickets a number of enqueues can use up, and the limit that is enough for them.
use Rattle.std.specs.Prelude.{ℕ, ◌+◌, ◌-◌, ◌*◌, max}
use Rattle.scq_word.specs.Sizes.{n_of}

-- what Threshold is reset to once an index was placed
unfoldable pub reset_value : ℕ → ℕ → ℕ
reset_value order seats = 2 * n_of order - 1 + max (n_of order) seats

-- a bound on the tickets of a ring where so many enqueues were begun, whatever the dequeues do
abbrev pub ticket_bound : ℕ → ℕ → ℕ → ℕ
ticket_bound order seats begun =
    4 * n_of order + (begun + 1) * (reset_value order seats + 1 + seats) + seats

-- the limit with which so many puts on a ring never meet a spent ticket: the bound where n indices,
-- as on ring 0, were placed before
abbrev pub limit_for : ℕ → ℕ → ℕ → ℕ
limit_for order seats puts = ticket_bound order seats (puts + n_of order)
