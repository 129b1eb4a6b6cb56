-- The point of each call of a run in which every call has ended: the moment at which it takes
-- place, as if at once. A point is how many steps have been made, so that of step i is i + 1; it is
-- 0 for an opening put.
use Rattle.std.specs.Prelude.{◌≡◌, ◌⊎◌, ℕ, ◌+◌, ◌<◌, ◌≤◌, max, false, List}
use Rattle.scq_word.specs.Exports.{n_of}
use Rattle.scq_core.specs.declared.ended.Ended.TheVariants.{Done}
use Rattle.scq_core.specs.declared.phase.Phase.{Phase}
use Rattle.scq_core.specs.declared.phase.Phase.TheVariants.{AtD1, AtD6, AtD10}
use Rattle.scq_core.specs.Machine.{Machine}
use Rattle.scq_core.specs.Exports.{ring_slots, zero_level}
use Rattle.scq_law.specs.RunSteps.{Run, Makes, IsStepOf, HasEnded, DrawsPut, DrawsGet, state_before}

-- a turn by which a dequeue decides, in the state m before it, that ring r is empty: a D1 finds
-- Threshold below 0, a D6 finds Tail no further than one past its ticket, or a D10 that would go on
-- finds Threshold at most 0
abbrev pub Decides : Machine → Phase → ℕ → Type 0
Decides m (AtD1 q) r = (q ≡ r) × (m.cells.threshold r < zero_level)
Decides m (AtD6 q h) r = (q ≡ r) × (m.cells.tail r ≤ h + 1)
Decides m (AtD10 q h false) r = (q ≡ r) × (m.cells.threshold r ≤ zero_level)
Decides m turn r = ⊥

-- step d is the deciding step of the seat's call of this number, a dequeue of ring r that ends with
-- Nothing
pub record IsDecidingStep (run : Run) (d seat call r : ℕ) : Type 0 where
  pub turn : Phase
  pub makes : Makes run d seat turn
  pub decides : Decides (state_before run d) turn r
  pub in_call : IsStepOf run d seat call

-- step d decides that ring r is empty, before the last step of this put, and with Head no further
-- than its place p
pub record DecidesBefore (run : Run) (d seat call r p : ℕ) : Type 0 where
  pub decider : ℕ
  pub nothing : ℕ
  pub decides : IsDecidingStep run d decider nothing r
  pub head : (state_before run d).cells.head r ≤ p
  pub later : ℕ
  pub is_later : IsStepOf run later seat call
  pub before : d < later

-- the point of a put at the place p of ring r, the seat's call of this number: that of the E1 that
-- drew p, or of the last such deciding step where that is later
pub record IsPutPoint (run : Run) (seat call r p point : ℕ) : Type 0 where
  pub drawn : ℕ
  pub draws : DrawsPut run drawn seat r p
  pub from_draw : drawn + 1 ≤ point
  pub from_decisions : (d : ℕ) → DecidesBefore run d seat call r p → d + 1 ≤ point
  pub reached : (point ≡ drawn + 1)
      ⊎ ((d : ℕ) × DecidesBefore run d seat call r p × (point ≡ d + 1))

-- the point of the put at the place p of ring r: an opening put's, or a call's
pub data IsPointOfPlace (run : Run) (r p : ℕ) : ℕ → Type 0 where
  of_opening : r ≡ 0 → ring_slots run.setup ≤ p → p < ring_slots run.setup + n_of run.setup.order
      → IsPointOfPlace run r p 0
  of_call : (seat call point : ℕ) (w : List ℕ) → HasEnded run seat call (Done r p w)
      → IsPutPoint run seat call r p point → IsPointOfPlace run r p point

-- the point of a get at the place p: that of the D2 that drew p, or of the put there where that is
-- later
pub record IsGetPoint (run : Run) (seat r p point : ℕ) : Type 0 where
  pub drawn : ℕ
  pub draws : DrawsGet run drawn seat r p
  pub put : ℕ
  pub of_put : IsPointOfPlace run r p put
  pub is : point ≡ max (drawn + 1) put
