-- Several calls of C in one: what is answered is that of the first that was refused, or ok.
use Rattle.std.specs.Prelude.{◌≡◌, ℕ, suc, ◌≤◌, List, length, Some, slice_get}
use Rattle.scq_port.specs.Exports.{PortStanding}
use Rattle.scq_c.specs.declared.exports.Held.{Held}
use Rattle.scq_c.specs.Codes.{scq_ok}
use Rattle.scq_c.specs.Answers.{OfSend, OfGiveBack, with_place}

-- so many calls, one after the other, took a port from what it was to what it is; `Call k` is what
-- is true of the call with the number k
pub data InARow (Call : ℕ → PortStanding → PortStanding → Type 0) (old : PortStanding)
    : ℕ → PortStanding → Type 0 where
  none_yet : InARow Call old 0 old
  one_more : {k : ℕ} {between new : PortStanding} → InARow Call old k between
      → Call k between new → InARow Call old (suc k) new

-- what a call of a slot is answered, by the answer's number: the slot before and after, and the
-- port
abbrev pub SlotCall : Type 1
SlotCall = ℕ → Held → Held → PortStanding → PortStanding → Type 0

-- the call of the slot k was answered ok, and the slot is as it left it
pub record WentAt (Of : SlotCall) (before after : List Held) (k : ℕ) (old new : PortStanding)
    : Type 0 where
  pub slot : Held
  pub left : Held
  pub was : slice_get before k ≡ Some slot
  pub is : slice_get after k ≡ Some left
  pub went : Of scq_ok slot left old new

-- of several calls, one for each slot, in the order of the slots: the first `done` were answered
-- ok, one after the other. Behind these no slot was written. With ok they are all; else the next
-- was answered so, and what it would have written to its slot isn't there
pub record OfMany (Of : SlotCall) (code done : ℕ) (before after : List Held)
    (old new : PortStanding) : Type 0 where
  pub last : PortStanding
  pub went : InARow (WentAt Of before after) old done last
  pub rest : (k : ℕ) → done ≤ k → slice_get after k ≡ slice_get before k
  pub all : code ≡ scq_ok → (done ≡ length before) × (new ≡ last)
  pub refused : (code ≡ scq_ok → ⊥)
      → (slot : Held) × (told : Held) × (slice_get before done ≡ Some slot)
      × Of code slot told last new

-- the buffer of a slot's index was sent; the place, or the ticket, is what the slot tells
pub record OfSlotSend (topic code : ℕ) (slot told : Held) (old new : PortStanding) : Type 0 where
  pub told_is : told ≡ with_place told.place slot
  pub sent : OfSend slot.index topic code slot.place told.place old new

-- the buffer of a slot's index was given back, and the slot is as it was
pub record OfSlotGiveBack (code : ℕ) (slot told : Held) (old new : PortStanding) : Type 0 where
  pub told_is : told ≡ slot
  pub given : OfGiveBack slot.index code old new

-- of several lends, takes, sends and give-backs
abbrev pub OfSends : ℕ → ℕ → ℕ → List Held → List Held → PortStanding → PortStanding → Type 0
OfSends topic = OfMany (OfSlotSend topic)

abbrev pub OfGiveBacks : ℕ → ℕ → List Held → PortStanding → PortStanding → Type 0
OfGiveBacks code done slots = OfMany OfSlotGiveBack code done slots slots
