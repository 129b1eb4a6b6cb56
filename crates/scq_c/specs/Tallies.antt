-- How counts are written out to C.
use Rattle.std.specs.Prelude.{◌≡◌, ℕ, List, length, Some, None, slice_get}
use Rattle.scq_queue.specs.declared.counts.Counts.{Counts}
use Rattle.scq_c.specs.declared.tally.Tally.{Tally}

-- the counts of a port, as C has them
abbrev pub tally_of : Counts → Tally
tally_of c = record { sent = c.sent; taken = c.taken; full = c.full }

-- these counts stand at the front of an array, in their order, as many as fit; behind them it is as
-- it was
pub record AreWritten (counts : List Counts) (before after : List Tally) : Type 0 where
  pub whole : length after ≡ length before
  pub written : (k : ℕ) (c : Counts) (t : Tally) → slice_get counts k ≡ Some c
      → slice_get after k ≡ Some t → t ≡ tally_of c
  pub rest : (k : ℕ) → slice_get counts k ≡ None → slice_get after k ≡ slice_get before k
