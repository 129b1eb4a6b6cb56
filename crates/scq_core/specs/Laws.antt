-- The laws of the machine that its own arithmetic stands on, for every reachable state and every
-- enabled step.
use Rattle.std.specs.Prelude.{ℕ, zero, suc, ◌≡◌, ◌≢◌, ◌+◌, ◌*◌, ◌^◌, ◌<◌, ◌≤◌, ◌⊎◌, true, List, []}
use Rattle.std.specs.Prelude.{◌++◌, slice_index_or, Option, Some, None}
use Rattle.scq_word.specs.declared.setup.Setup.{Setup}
use Rattle.scq_word.specs.Exports.{n_of, packed, safe_in, cycle_in, is_none_in, rank_in}
use Rattle.scq_core.specs.declared.ended.Ended.{Ended}
use Rattle.scq_core.specs.declared.phase.Phase.{Phase}
use Rattle.scq_core.specs.declared.phase.Phase.TheVariants.{Idle, AtE1, AtE2, AtE3, AtE4, AtE5}
use Rattle.scq_core.specs.declared.phase.Phase.TheVariants.{AtE6, AtD1, AtD2, AtD3, AtD4, AtD5}
use Rattle.scq_core.specs.declared.phase.Phase.TheVariants.{AtD6, AtD7, AtD8, AtD9, AtD10}
use Rattle.scq_core.specs.Machine.{Cells, SeatPart, Machine, Location, written}
use Rattle.scq_core.specs.Table.{ring_slots, cycle, slot, zero_level, reset_level, holds_index}
use Rattle.scq_core.specs.Start.{unused}
use Rattle.scq_core.specs.Stances.{stance_of, entered_ring, one_on}

-- an entry's word is as it was, or of a higher rank: so a word that has changed never comes back
pub record IsAbove (m e now : ℕ) : Type 0 where
  pub above : (now ≡ e) ⊎ (rank_in m e < rank_in m now)

-- each entry is as it was, or its rank rose
pub record RankRises (c : Setup) (before later : Cells) : Type 0 where
  pub rises : (r s : ℕ) → IsAbove (ring_slots c) (before.entries.word r s) (later.entries.word r s)

-- Tail and Head never fall
pub record CountersRise (before later : Cells) : Type 0 where
  pub tail : (r : ℕ) → before.tail r ≤ later.tail r
  pub head : (r : ℕ) → before.head r ≤ later.head r

-- the word of the entry of a ticket's slot
abbrev pub word_at : Setup → Cells → ℕ → ℕ → ℕ
word_at c m r t = m.entries.word r (slot c t)

-- an enqueue that still has its index: ring and index are in range, and the index is in the seat's
-- hand
pub record Offers (c : Setup) (hand : List ℕ) (r i : ℕ) : Type 0 where
  pub ring : r < c.rings
  pub index : i < n_of c.order
  pub held : holds_index hand i ≡ true

-- a ticket that was drawn from a counter, at or past the first and below the limit
pub record Drawn (c : Setup) (counter t : ℕ) : Type 0 where
  pub first : ring_slots c ≤ t
  pub below : t < counter
  pub below_limit : t < c.limit

-- a loaded word of a cycle before the ticket's, which stands there still or never again
pub record Lags (c : Setup) (t e now : ℕ) : Type 0 where
  pub earlier : cycle_in (ring_slots c) e < cycle c t
  pub above : IsAbove (ring_slots c) e now

-- a catch-up: Tail was at `from`, Head is at or past `to`
pub record CatchesUp (tail head from to : ℕ) : Type 0 where
  pub rises : from ≤ to
  pub behind_head : to ≤ head
  pub was_tail : from ≤ tail

-- what a seat that is in the middle of a call, or makes this turn, has
abbrev pub Busy : Setup → Cells → List ℕ → Phase → Type 0
Busy c m hand Idle = Unit {0}
Busy c m hand (AtE1 r i w l) = Offers c hand r i × (l ≤ m.tail r)
Busy c m hand (AtE2 r i w t l) =
    Offers c hand r i × Drawn c (m.tail r) t × (l ≤ rank_in (ring_slots c) (word_at c m r t))
Busy c m hand (AtE3 r i w t e) =
    Offers c hand r i × Drawn c (m.tail r) t × Lags c t e (word_at c m r t)
    × (is_none_in (ring_slots c) e ≡ true) × (safe_in (ring_slots c) e ≡ 0)
Busy c m hand (AtE4 r i w t e) =
    Offers c hand r i × Drawn c (m.tail r) t × Lags c t e (word_at c m r t)
    × (is_none_in (ring_slots c) e ≡ true)
Busy c m hand (AtE5 r i w t) = (r < c.rings) × Drawn c (m.tail r) t × (i < n_of c.order)
Busy c m hand (AtE6 r i w t) = (r < c.rings) × Drawn c (m.tail r) t × (i < n_of c.order)
Busy c m hand (AtD1 r) = r < c.rings
Busy c m hand (AtD2 r l) = (r < c.rings) × (l ≤ m.head r)
Busy c m hand (AtD3 r h l) =
    (r < c.rings) × Drawn c (m.head r) h × (l ≤ rank_in (ring_slots c) (word_at c m r h))
Busy c m hand (AtD4 r h) = (r < c.rings) × Drawn c (m.head r) h
Busy c m hand (AtD5 r h e) = (r < c.rings) × Drawn c (m.head r) h × Lags c h e (word_at c m r h)
Busy c m hand (AtD6 r h) = (r < c.rings) × Drawn c (m.head r) h
Busy c m hand (AtD7 r h from to) =
    (r < c.rings) × Drawn c (m.head r) h × CatchesUp (m.tail r) (m.head r) from to
Busy c m hand (AtD8 r h from) = (r < c.rings) × Drawn c (m.head r) h × (from < m.tail r)
Busy c m hand (AtD9 r h from to) =
    (r < c.rings) × Drawn c (m.head r) h × (from < m.tail r) × (to ≤ m.head r)
Busy c m hand (AtD10 r h leaving) = (r < c.rings) × Drawn c (m.head r) h

-- each seat has what its phase says, a seat that keeps a spent ticket is idle and drew it at or
-- past the limit, and each ring's counters have left the first round behind
pub record IsSteady (c : Setup) (m : Machine) : Type 0 where
  pub busy : (k : ℕ) → Busy c m.cells (m.part k).hand (m.part k).phase
  pub kept : (k t : ℕ) → (m.part k).spent ≡ Some t → ((m.part k).phase ≡ Idle) × (c.limit ≤ t)
  pub tails : (r : ℕ) → ring_slots c ≤ m.cells.tail r
  pub heads : (r : ℕ) → ring_slots c ≤ m.cells.head r

-- the sum of a number over the parts of the seats below k
abbrev pub total : (SeatPart → ℕ) → (ℕ → SeatPart) → ℕ → ℕ
total f part zero = 0
total f part (suc k) = f (part k) + total f part k

-- 1 for a seat that keeps a spent ticket
abbrev pub spent_of : Option ℕ → ℕ
spent_of None = 0
spent_of (Some ticket) = 1

-- 1 for a seat in a dequeue of this ring that has passed D1
abbrev pub dequeues : ℕ → Phase → ℕ
dequeues r phase = one_on r (entered_ring (stance_of phase))

-- how many seats keep a spent ticket, and how many are in a dequeue of this ring that has passed D1
abbrev pub spent_seats : Setup → Machine → ℕ
spent_seats c m = total (λ p. spent_of p.spent) m.part c.seats

abbrev pub dequeues_of : Setup → Machine → ℕ → ℕ
dequeues_of c m r = total (λ p. dequeues r p.phase) m.part c.seats

-- Tail and Head pass the limit by at most one for each seat that keeps a spent ticket
pub record CountersBounded (c : Setup) (m : Machine) : Type 0 where
  pub tail : (r : ℕ) → m.cells.tail r ≤ c.limit + spent_seats c m
  pub head : (r : ℕ) → m.cells.head r ≤ c.limit + spent_seats c m
  pub spent : spent_seats c m ≤ c.seats

-- Threshold is at least a - k, where a of the k seats are in a dequeue of the ring that has passed
-- D1, and no higher than a reset sets it. Both sides are raised by what the word of 0 is
pub record ThresholdFloor (c : Setup) (m : Machine) : Type 0 where
  pub floor : (r : ℕ) → zero_level + dequeues_of c m r ≤ m.cells.threshold r + c.seats
  pub ceiling : (r : ℕ) → m.cells.threshold r ≤ reset_level c

-- the cycle of each entry is that of a ticket below the limit
pub record CyclesBounded (c : Setup) (m : Cells) : Type 0 where
  pub cycles : (r s : ℕ) → cycle_in (ring_slots c) (m.entries.word r s) * ring_slots c < c.limit

-- the entries of the start, told by ticket: in ring 0 the slot of the ticket 2n + j holds the index
-- j, for each j below n, and beside it the opening content j; each other entry was never used
pub record StartsFull (c : Setup) (opening : List (List ℕ)) (m : Cells) : Type 0 where
  pub words : (j : ℕ) → j < n_of c.order
      → m.entries.word 0 (slot c (ring_slots c + j)) ≡ packed (ring_slots c) 1 1 j
  pub contents : (j : ℕ) → j < n_of c.order
      → m.entries.content 0 (slot c (ring_slots c + j)) ≡ slice_index_or opening j []
  pub others : (r s : ℕ) → ((j : ℕ) → j < n_of c.order → r ≡ 0 → s ≢ slot c (ring_slots c + j))
      → m.entries.word r s ≡ unused (ring_slots c)

-- every word is one of 64 bits, with room for a step
pub record WordsFit (c : Setup) (m : Cells) : Type 0 where
  pub tail : (r : ℕ) → m.tail r + 1 < 2 ^ 64
  pub head : (r : ℕ) → m.head r + 1 < 2 ^ 64
  pub threshold : (r : ℕ) → (0 < m.threshold r) × (m.threshold r < 2 ^ 64)
  pub entry : (r s : ℕ) → m.entries.word r s < 2 ^ 64

-- a record of ended calls with more of them at its end
pub record Grows (before later : List Ended) : Type 0 where
  pub more : List Ended
  pub appended : later ≡ before ++ more

-- what stands in a seat's record stays there
pub record RecordsGrow (before later : Machine) : Type 0 where
  pub calls : (k : ℕ) → Grows (before.part k).calls (later.part k).calls

-- a step changes at most one word, with the content beside it where it is an entry, and its own
-- seat's part
pub record ChangesOne (before : Machine) (seat : ℕ) (later : Machine) : Type 0 where
  pub location : Location
  pub value : ℕ
  pub content : List ℕ
  pub cells : later.cells ≡ written before.cells location value content
  pub parts : (k : ℕ) → k ≢ seat → later.part k ≡ before.part k
  pub opening : later.opening ≡ before.opening

-- while a dequeue catches up, Tail is past what it found there
pub record CatchUpLags (m : Machine) : Type 0 where
  pub at_head : (k r h from : ℕ) → (m.part k).phase ≡ AtD8 r h from → from < m.cells.tail r
  pub at_tail : (k r h from to : ℕ) → (m.part k).phase ≡ AtD9 r h from to → from < m.cells.tail r
