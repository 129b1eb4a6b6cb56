-- Places of a ring are its tickets at which an index was placed. Each is placed once and taken at
-- most once, and what is taken there is what was placed there. All of it is read off the seats'
-- records and what they are in the middle of.
use Rattle.std.specs.Prelude.{◌≡◌, ℕ, ◌+◌, ◌-◌, ◌<◌, ◌≤◌, ◌⊎◌, Bool, false, List, [], length, Some}
use Rattle.std.specs.Prelude.{slice_get, slice_index_or}
use Rattle.scq_word.specs.declared.setup.Setup.{Setup}
use Rattle.scq_word.specs.Exports.{n_of, is_none_in}
use Rattle.scq_core.specs.declared.ended.Ended.TheVariants.{Done, Got}
use Rattle.scq_core.specs.declared.phase.Phase.{Phase}
use Rattle.scq_core.specs.declared.phase.Phase.TheVariants.{Idle, AtD4}
use Rattle.scq_core.specs.Exports.{stance_of, landed, trying, gave_up, ring_slots, slot, word_at}
use Rattle.scq_core.specs.Machine.{Machine}

-- who placed: an opening put, or a seat's call by its number in the record, from 0
pub data Maker : Type 0 where
  opening_put : Maker
  call_of : (seat number : ℕ) → Maker

-- a seat has placed this content at this place, and its call has not ended
abbrev pub HasLanded : Phase → ℕ → ℕ → List ℕ → Type 0
HasLanded phase r p w = (i : ℕ) × (stance_of phase ≡ landed r i w p)

-- a dequeue has drawn this ticket and looks whether an index stands there
abbrev pub LooksAt : Phase → ℕ → ℕ → Type 0
LooksAt phase r h = stance_of phase ≡ trying r h

-- a dequeue has given this ticket up
abbrev pub GaveUp : Phase → ℕ → ℕ → Type 0
GaveUp phase r h = (leaves : Bool) × (stance_of phase ≡ gave_up r h leaves)

-- the content w was placed at the place p of ring r: at the start, by a call in a record, or by one
-- that has not ended
pub data IsPlacedBy (c : Setup) (m : Machine) (r p : ℕ) (w : List ℕ) : Maker → Type 0 where
  at_opening : r ≡ 0 → ring_slots c ≤ p → p < ring_slots c + n_of c.order
      → w ≡ slice_index_or m.opening (p - ring_slots c) []
      → IsPlacedBy c m r p w opening_put
  in_record : (seat number : ℕ) → slice_get (m.part seat).calls number ≡ Some (Done r p w)
      → IsPlacedBy c m r p w (call_of seat number)
  under_way : (seat : ℕ) → HasLanded (m.part seat).phase r p w
      → IsPlacedBy c m r p w (call_of seat (length (m.part seat).calls))

-- a call in a record took there
abbrev pub IsTakenBy : Machine → ℕ → ℕ → List ℕ → ℕ → ℕ → Type 0
IsTakenBy m r p w seat number = slice_get (m.part seat).calls number ≡ Some (Got r p w)

-- some call in a record took there
pub record IsTaken (m : Machine) (r p : ℕ) (w : List ℕ) : Type 0 where
  pub seat : ℕ
  pub number : ℕ
  pub taken : IsTakenBy m r p w seat number

-- nobody has taken there
abbrev pub IsUntaken : Machine → ℕ → ℕ → Type 0
IsUntaken m r p = (w : List ℕ) (seat number : ℕ) → IsTakenBy m r p w seat number → ⊥

-- just one seat looks at this ticket
pub record OneLooks (c : Setup) (m : Machine) (r h : ℕ) : Type 0 where
  pub seat : ℕ
  pub low : seat < c.seats
  pub looks : LooksAt (m.part seat).phase r h
  pub alone : (k : ℕ) → LooksAt (m.part k).phase r h → k ≡ seat

-- no seat is in the middle of a call
abbrev pub AllIdle : Setup → Machine → Type 0
AllIdle c m = (k : ℕ) → k < c.seats → (m.part k).phase ≡ Idle

pub record PlacesOnce (c : Setup) (m : Machine) : Type 0 where
  -- a place is placed once, by one call with one content, below Tail and the limit
  pub once : (r p : ℕ) (v w : List ℕ) (a b : Maker) → IsPlacedBy c m r p v a
      → IsPlacedBy c m r p w b → (a ≡ b) × (v ≡ w)
  pub below_limit : (r p : ℕ) (w : List ℕ) (a : Maker) → IsPlacedBy c m r p w a
      → (ring_slots c ≤ p) × (p < m.cells.tail r) × (p < c.limit)
  -- it is taken once, below Head
  pub taken_once : (r p : ℕ) (v w : List ℕ) (k x j y : ℕ) → IsTakenBy m r p v k x
      → IsTakenBy m r p w j y → (k ≡ j) × (x ≡ y)
  pub taken_below : (r p : ℕ) (w : List ℕ) (k x : ℕ) → IsTakenBy m r p w k x → p < m.cells.head r
  -- with the content that was placed there
  pub fresh : (r p : ℕ) (w : List ℕ) (k x : ℕ) → IsTakenBy m r p w k x
      → (a : Maker) × IsPlacedBy c m r p w a
  -- what was placed has been taken, or is at or above Head, or just one seat looks at it
  pub claimed : (r p : ℕ) (w : List ℕ) (a : Maker) → IsPlacedBy c m r p w a
      → IsTaken m r p w ⊎ (m.cells.head r ≤ p) ⊎ OneLooks c m r p
  -- where a dequeue looks Head has passed and nobody has taken
  pub looked_at : (k r h : ℕ) → LooksAt (m.part k).phase r h
      → (h < m.cells.head r) × IsUntaken m r h
  -- nothing is placed at a ticket that a dequeue has given up
  pub given_up : (k r h : ℕ) → GaveUp (m.part k).phase r h → (w : List ℕ) (a : Maker)
      → IsPlacedBy c m r h w a → ⊥
  -- where a dequeue is about to take, an index stands
  pub stands : (k r h : ℕ) → (m.part k).phase ≡ AtD4 r h
      → is_none_in (ring_slots c) (word_at c m.cells r h) ≡ false
  -- what a dequeue is about to answer is what was placed at its ticket
  pub answered : (k r h : ℕ) → (m.part k).phase ≡ AtD4 r h
      → (a : Maker) × IsPlacedBy c m r h (m.cells.entries.content r (slot c h)) a
