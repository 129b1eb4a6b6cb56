-- The most that a setup may ask for. In a ring of n indices the word of an entry is below 4n times
-- one more than its cycle, and of a ticket t the cycle is t / 2n: so the word is at most 2t + 4n,
-- below 2^61 + 2^18 for these numbers, and has room in 64 bits at every order.
use Rattle.std.specs.Prelude.{ℕ, ◌+◌}

-- of the order: up to 65,536 indices
abbrev pub most_order : ℕ
most_order = 16

-- of topics
abbrev pub most_topics : ℕ
most_topics = 31

-- of rings: one for each topic, and ring 0 for the free indices
abbrev pub most_rings : ℕ
most_rings = most_topics + 1

-- of the order of workers' queues, as the program makes them: their frames lie in one block
abbrev pub most_run_order : ℕ
most_run_order = 12

-- of the order that `limit_for` is asked about
abbrev pub most_limit_order : ℕ
most_limit_order = 12
