-- The book of failed tickets, what is drawn between Head and Tail, and the window that follows from both.
use Rattle.std.specs.Prelude.{◌≡◌, ◌≢◌, ℕ, ◌+◌, ◌<◌, ◌≤◌, ◌⊎◌}
use Rattle.scq_word.specs.declared.setup.Setup.{Setup}
use Rattle.scq_word.specs.Exports.{n_of}
use Rattle.scq_core.specs.Exports.{ring_slots, slot}
use Rattle.scq_law.proofs.Base.Ghosts.{Ghost, fresh, pending, failed}
use Rattle.scq_law.proofs.Base.EventFacts.{Live}

-- an index stands at no more than one place of a ring, or belongs to no more than one pending ticket there
pub record StandsAtMostOnce (c : Setup) (g : Ghost) : Type 0 where
  pub pends : (r t u j k i : ℕ) → g.puts r t ≡ pending j i → g.puts r u ≡ pending k i → t ≡ u
  pub apart : (r t p j i : ℕ) → g.puts r t ≡ pending j i → Live g r p i → ⊥
  pub lives : (r p q i : ℕ) → Live g r p i → Live g r q i → p ≡ q
  pub low : (r t k i : ℕ) → g.puts r t ≡ pending k i → i < n_of c.order

-- each ticket between Head and Tail was drawn: it is pending, failed or placed
pub record TicketsAreDrawn (c : Setup) (g : Ghost) (tail head : ℕ → ℕ) : Type 0 where
  pub covered : (r t : ℕ) → head r ≤ t → t < tail r → t < c.limit → g.puts r t ≢ fresh

-- on this ring an index stands at places and belongs to pending tickets above this ticket only
pub record IsAfter (g : Ghost) (r x t : ℕ) : Type 0 where
  pub waits : (s k : ℕ) → g.puts r s ≡ pending k x → t < s
  pub lies : (p : ℕ) → Live g r p x → t < p

-- an index stands at an earlier place of a ticket's slot
pub record Bars (c : Setup) (g : Ghost) (r t i : ℕ) : Type 0 where
  pub place : ℕ
  pub earlier : place < t
  pub slot : slot c place ≡ slot c t
  pub live : Live g r place i

-- the failed tickets, each with the step at which it failed, its drawer's index and the index that it found: of those at
-- or past Head, what was found stands earlier in the slot or has gone past the ticket, the drawer's index has gone past
-- it, no two found one index, and none found the index of itself or of one that failed before it
pub record FailedTickets (c : Setup) (g : Ghost) (head : ℕ → ℕ) (time : ℕ) : Type 0 where
  pub made : (r t y d b : ℕ) → g.puts r t ≡ failed y d b → y < time
  pub small : (r t y d b : ℕ) → g.puts r t ≡ failed y d b → head r ≤ t → (d < n_of c.order) × (b < n_of c.order)
  pub blocked : (r t y d b : ℕ) → g.puts r t ≡ failed y d b → head r ≤ t → Bars c g r t b ⊎ IsAfter g r b t
  pub drawer : (r t y d b : ℕ) → g.puts r t ≡ failed y d b → head r ≤ t → IsAfter g r d t
  pub apart : (r t y d b s z e f : ℕ) → g.puts r t ≡ failed y d b → g.puts r s ≡ failed z e f → head r ≤ t → head r ≤ s → t ≢ s → b ≢ f
  pub other : (r t y d b s z e f : ℕ) → g.puts r t ≡ failed y d b → g.puts r s ≡ failed z e f → head r ≤ t → head r ≤ s → y ≤ z → d ≢ f

-- no ticket that is drawn below the limit is as far past Head as twice the indices, less one
pub record IsWindow (c : Setup) (tail head : ℕ → ℕ) : Type 0 where
  pub within : (r t : ℕ) → t < tail r → t < c.limit → t + 2 ≤ head r + ring_slots c
