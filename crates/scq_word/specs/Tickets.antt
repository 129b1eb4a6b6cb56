-- A ticket of a ring: the round of the ring that it belongs to, and its slot.
use Rattle.std.specs.Prelude.{ℕ, ◌+◌, ◌-◌, ◌*◌, ◌/◌, ◌%◌, ◌^◌, nat_lt, if◌then◌else◌}
use Rattle.scq_word.specs.Sizes.{slots_of}

-- how often a ring of m slots was gone round before the ticket
unfoldable pub cycle_of : ℕ → ℕ → ℕ
cycle_of m ticket = ticket / m

-- the numbers below 8w laid out in eight columns of w: those that follow one another in a column
-- are eight apart
abbrev pub in_columns : ℕ → ℕ → ℕ
in_columns w s = s % w * 8 + s / w

-- the slot of a ticket, in a ring of an order: what is left of it modulo the number of slots, and
-- in a ring of at least 16 slots laid out in columns, so that tickets that follow one another don't
-- meet in one cache line
unfoldable pub slot_of : ℕ → ℕ → ℕ
slot_of order ticket =
    let r = order + 1 in
    let s = ticket % slots_of order in
    if nat_lt 3 r then in_columns (2 ^ (r - 3)) s else s
