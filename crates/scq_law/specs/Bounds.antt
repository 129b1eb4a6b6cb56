-- How far Tail, Head and Threshold of a ring are apart, and how many tickets the enqueues that were
-- begun can use up.
use Rattle.std.specs.Prelude.{◌≡◌, ℕ, ◌+◌, ◌*◌, ◌<◌, ◌≤◌, ◌⊎◌, min, Bool, true, false, ◌==◌}
use Rattle.std.specs.Prelude.{if◌then◌else◌, List, [], ◌∷◌}
use Rattle.std.specs.List.{Contains}
use Rattle.scq_word.specs.declared.setup.Setup.{Setup}
use Rattle.scq_word.specs.Exports.{n_of, reset_value, ticket_bound}
use Rattle.scq_core.specs.declared.ended.Ended.{Ended}
use Rattle.scq_core.specs.declared.ended.Ended.TheVariants.{Done, Got, Nothing, Spent}
use Rattle.scq_core.specs.declared.phase.Phase.{Phase}
use Rattle.scq_core.specs.Exports.{stance_of, put_ring, attempt_ring, one_on, ring_slots}
use Rattle.scq_core.specs.Exports.{zero_level, total}
use Rattle.scq_core.specs.Machine.{Machine}
use Rattle.scq_law.specs.Run.{Recorded}

-- no ring's Tail, as far as it is below the limit, is more than twice the number of indices, less
-- one, past its Head
pub record WithinWindow (c : Setup) (m : Machine) : Type 0 where
  pub within : (r : ℕ) → min (m.cells.tail r) c.limit + 1 ≤ m.cells.head r + 2 * n_of c.order

-- 1 for a seat whose attempt is in flight on this ring: it has drawn a ticket below the limit to
-- dequeue, and hasn't yet taken what is there or counted the attempt as failed
abbrev pub in_flight : ℕ → Phase → ℕ
in_flight r phase = one_on r (attempt_ring (stance_of phase))

-- how many attempts of this ring are in flight
abbrev pub attempts_in_flight : Setup → Machine → ℕ → ℕ
attempts_in_flight c m r = total (λ p. in_flight r p.phase) m.part c.seats

-- a seat's record has a put that ended at this place of the ring
pub record SomePutEndedAt (m : Machine) (r p : ℕ) : Type 0 where
  pub seat : ℕ
  pub content : List ℕ
  pub ended : Contains (m.part seat).calls (Done r p content)

-- an opening place of ring 0
pub record IsOpening (c : Setup) (r p : ℕ) : Type 0 where
  pub ring : r ≡ 0
  pub first : ring_slots c ≤ p
  pub last : p < ring_slots c + n_of c.order

-- the put at this place has ended, or is an opening put
abbrev pub IsFinished : Setup → Machine → ℕ → ℕ → Type 0
IsFinished c m r p = SomePutEndedAt m r p ⊎ IsOpening c r p

-- with q attempts in flight, Threshold is at least (p - Head) + q + 2 for each finished place p at
-- or past Head. Both sides are raised by Head and by what the word of 0 is
pub record ThresholdCovers (c : Setup) (m : Machine) : Type 0 where
  pub covers : (r p : ℕ) → IsFinished c m r p → m.cells.head r ≤ p
      → zero_level + p + attempts_in_flight c m r + 2 ≤ m.cells.threshold r + m.cells.head r

-- since a put last ended with Done on a ring, or since the start, no more attempts to dequeue have
-- failed there than a reset sets and there are seats
pub record FailsBounded (c : Setup) (recorded : Recorded) : Type 0 where
  pub fails : (r : ℕ) → recorded.fails r ≤ reset_value c.order c.seats + c.seats

-- the sum of a number over the calls that have ended
abbrev pub tally : (Ended → ℕ) → List Ended → ℕ
tally f [] = 0
tally f (x ∷ xs) = f x + tally f xs

-- 1 for an enqueue of this ring
abbrev pub was_put : ℕ → Ended → ℕ
was_put r (Done q p w) = if q == r then 1 else 0
was_put r (Got q p w) = 0
was_put r (Nothing q) = 0
was_put r (Spent q t true) = if q == r then 1 else 0
was_put r (Spent q t false) = 0

-- 1 for a seat that has one under way
abbrev pub is_putting : ℕ → Phase → ℕ
is_putting r phase = one_on r (put_ring (stance_of phase))

-- the opening puts of a ring
abbrev pub openings : Setup → ℕ → ℕ
openings c r = if r == 0 then n_of c.order else 0

-- how many enqueues were begun on this ring: the ended ones, those under way, and the opening puts
abbrev pub enqueues : Setup → Machine → ℕ → ℕ
enqueues c m r =
    total (λ p. tally (was_put r) p.calls + is_putting r p.phase) m.part c.seats + openings c r

-- Head, and Tail as far as it is below the limit, stay below the bound for the enqueues that were
-- begun on their ring
pub record TicketsBounded (c : Setup) (m : Machine) : Type 0 where
  pub head : (r : ℕ)
      → m.cells.head r + 2 * n_of c.order ≤ ticket_bound c.order c.seats (enqueues c m r)
  pub tail : (r : ℕ)
      → min (m.cells.tail r) c.limit + 1 ≤ ticket_bound c.order c.seats (enqueues c m r)

-- where the bound of a ring is within the limit, no call on that ring has ended for want of tickets
pub record NoneSpentWithinLimit (c : Setup) (m : Machine) : Type 0 where
  pub none : (r : ℕ) → ticket_bound c.order c.seats (enqueues c m r) ≤ c.limit
      → (k t : ℕ) (is_put : Bool) → Contains (m.part k).calls (Spent r t is_put) → ⊥
