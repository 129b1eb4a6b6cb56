-- Why the loops of a call end: each new try stands higher than the one before, and has a bound.
use Rattle.std.specs.Prelude.{◌≡◌, ℕ, ◌+◌, ◌*◌, ◌<◌, ◌≤◌, Some}
use Rattle.scq_word.specs.declared.setup.Setup.{Setup}
use Rattle.scq_word.specs.Exports.{rank_in}
use Rattle.scq_core.specs.declared.phase.Phase.{Phase}
use Rattle.scq_core.specs.declared.phase.Phase.TheVariants.{AtE1, AtE2, AtE3, AtE4, AtD2, AtD3}
use Rattle.scq_core.specs.declared.phase.Phase.TheVariants.{AtD5, AtD7, AtD8, AtD9, AtD10}
use Rattle.scq_core.specs.declared.step.Step.{Step}
use Rattle.scq_core.specs.Exports.{read, beside, ring_slots, cycle, turn_of, location_of, after}
use Rattle.scq_core.specs.Exports.{IsAbove}
use Rattle.scq_core.specs.Machine.{Machine}

-- what a turn finds: a counter or a rank no lower than its least; at an exchange the word that was
-- loaded or one of a higher rank; at the exchange of a catch-up a Tail no lower than the one
-- loaded, and after it has failed a higher one
abbrev pub FindsAtLeast : Setup → Phase → ℕ → Type 0
FindsAtLeast c (AtE1 r i w l) x = l ≤ x
FindsAtLeast c (AtE2 r i w t l) x = l ≤ rank_in (ring_slots c) x
FindsAtLeast c (AtE4 r i w t e) x = IsAbove (ring_slots c) e x
FindsAtLeast c (AtD2 r l) x = l ≤ x
FindsAtLeast c (AtD3 r h l) x = l ≤ rank_in (ring_slots c) x
FindsAtLeast c (AtD5 r h e) x = IsAbove (ring_slots c) e x
FindsAtLeast c (AtD7 r h from to) x = from ≤ x
FindsAtLeast c (AtD9 r h from to) x = from < x
FindsAtLeast c turn x = Unit {0}

-- from a turn to the phase after it. With one ticket, which stays: the rank that was loaded is no
-- lower than the least and below the ticket's cycle, a look at Head keeps the word that was loaded,
-- and a failed exchange found one of a higher rank. From ticket to ticket: the next one is higher,
-- and a call goes on only with one below the limit. In a catch-up: what was loaded of Tail is kept
-- until Tail is loaded again, which is higher then, and no further past the limit than there are
-- seats
abbrev pub Rises : Setup → Phase → Phase → Type 0
Rises c (AtE2 r i w t l) (AtE3 _ _ _ u e) =
    (u ≡ t) × (l ≤ rank_in (ring_slots c) e) × (rank_in (ring_slots c) e < 3 * cycle c t)
Rises c (AtE2 r i w t l) (AtE4 _ _ _ u e) =
    (u ≡ t) × (l ≤ rank_in (ring_slots c) e) × (rank_in (ring_slots c) e < 3 * cycle c t)
Rises c (AtE3 r i w t e) (AtE4 _ _ _ u x) = (u ≡ t) × (x ≡ e)
Rises c (AtE4 r i w t e) (AtE2 _ _ _ u l) = (u ≡ t) × (rank_in (ring_slots c) e < l)
Rises c (AtE2 r i w t _) (AtE1 _ _ _ l) = t < l
Rises c (AtE3 r i w t e) (AtE1 _ _ _ l) = t < l
Rises c (AtE1 r i w l) (AtE2 _ _ _ t _) = (l ≤ t) × (t < c.limit)
Rises c (AtD3 r h l) (AtD5 _ u e) =
    (u ≡ h) × (l ≤ rank_in (ring_slots c) e) × (rank_in (ring_slots c) e < 3 * cycle c h)
Rises c (AtD5 r h e) (AtD3 _ u l) = (u ≡ h) × (rank_in (ring_slots c) e < l)
Rises c (AtD10 r h leaving) (AtD2 _ l) = h < l
Rises c (AtD2 r l) (AtD3 _ h _) = (l ≤ h) × (h < c.limit)
Rises c (AtD7 r h from to) (AtD8 _ _ kept) = kept ≡ from
Rises c (AtD8 r h from) (AtD9 _ _ kept to) = kept ≡ from
Rises c (AtD9 r h from to) (AtD7 _ _ tail _) = (from < tail) × (tail ≤ c.limit + c.seats)
Rises c turn phase = Unit {0}

-- both, of each enabled turn
pub record RetriesRise (c : Setup) (m : Machine) : Type 0 where
  pub finds : (k : ℕ) (s : Step) (turn : Phase) → turn_of c (m.part k) s ≡ Some turn
      → FindsAtLeast c turn (read m.cells (location_of c turn))
  pub rises : (k : ℕ) (s : Step) (turn : Phase) → turn_of c (m.part k) s ≡ Some turn
      → Rises c turn (after c turn (read m.cells (location_of c turn))
      (beside m.cells (location_of c turn)) (m.part k)).phase
