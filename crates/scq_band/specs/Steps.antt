-- For private calls: which turn each operation of the table makes. The turn is the seat's phase, or
-- where the seat is idle the first step of a call, on the ring of the word, with the slot that
-- stands first.
use Rattle.std.specs.Prelude.{◌≡◌, ℕ, List, [], ◌∷◌, Option, Some, None}
use Rattle.scq_word.specs.declared.setup.Setup.{Setup}
use Rattle.scq_core.specs.declared.phase.Phase.{Phase}
use Rattle.scq_core.specs.declared.phase.Phase.TheVariants.{Idle, AtE1, AtE2, AtE3, AtE4, AtE5}
use Rattle.scq_core.specs.declared.phase.Phase.TheVariants.{AtE6, AtD1, AtD2, AtD3, AtD4, AtD5}
use Rattle.scq_core.specs.declared.phase.Phase.TheVariants.{AtD6, AtD7, AtD8, AtD9, AtD10}
use Rattle.scq_core.specs.Exports.{ring_slots, cycle, passed, idle_part}
use Rattle.scq_word.specs.Exports.{packed}
use Rattle.scq_band.specs.Slots.{SlotStanding}
use Rattle.atomic_table.specs.Table.{Me}
use Rattle.scq_band.specs.Layout.{ring_of_word}
use Rattle.scq_band.specs.Known.{Member, Known}

-- the one seat that stands in a view, and what it is in the middle of
abbrev pub my_of : List Member → Member
my_of [] = record { number = 0; part = idle_part; retired = None; brought = [] }
my_of (x ∷ xs) = x

abbrev pub my : Known → Member
my v = my_of v.seats

abbrev pub my_phase : Known → Phase
my_phase v = (my v).part.phase

-- the index of the slot that stands first, and the bytes of the buffer in it
abbrev pub front_index : {S : Type 0} → List (ℕ × S) → ℕ
front_index [] = 0
front_index (x ∷ xs) = x.0

module _ {B : Type 0} (contents : B → List ℕ) where
  abbrev pub bytes_in : Option B → List ℕ
  bytes_in None = []
  bytes_in (Some b) = contents b

  abbrev pub front_bytes : List (ℕ × SlotStanding B) → List ℕ
  front_bytes [] = []
  front_bytes (x ∷ xs) = bytes_in x.1.buffer

-- a load begins a get
abbrev pub loading : ℕ → Phase → Phase
loading r Idle = AtD1 r
loading r phase = phase

-- a draw begins a put of the index i with the content w
abbrev pub drawing : ℕ → ℕ → List ℕ → Phase → Phase
drawing r i w Idle = AtE1 r i w 0
drawing r i w phase = phase

-- the turn of a load of this word
abbrev pub load_turn : Setup → ℕ → Known → Phase
load_turn c word v = loading (ring_of_word c word) (my_phase v)

-- the turn of a draw from this word
abbrev pub draw_turn : {B : Type 0} → (B → List ℕ) → Setup → ℕ → Me (SlotStanding B) Known → Phase
draw_turn contents c word me =
    drawing (ring_of_word c word) (front_index me.1) (front_bytes contents me.1) (my_phase me.0)

-- the turns that only read
abbrev pub OnlyReads : Phase → Type 0
OnlyReads (AtE2 r i w t l) = Unit {0}
OnlyReads (AtE3 r i w t e) = Unit {0}
OnlyReads (AtE5 r i w t) = Unit {0}
OnlyReads (AtD1 r) = Unit {0}
OnlyReads (AtD3 r h l) = Unit {0}
OnlyReads (AtD6 r h) = Unit {0}
OnlyReads (AtD8 r h from) = Unit {0}
OnlyReads (AtD9 r h from to) = Unit {0}
OnlyReads turn = ⊥

-- those that draw a ticket
abbrev pub IsDraw : Phase → Type 0
IsDraw (AtE1 r i w l) = Unit {0}
IsDraw (AtD2 r l) = Unit {0}
IsDraw turn = ⊥

-- those that exchange one word for another
abbrev pub Exchanges : Setup → Phase → ℕ → ℕ → Type 0
Exchanges c (AtE4 r i w t e) old new = (old ≡ e) × (new ≡ packed (ring_slots c) (cycle c t) 1 i)
Exchanges c (AtD5 r h e) old new = (old ≡ e) × (new ≡ passed c h e)
Exchanges c (AtD7 r h from to) old new = (old ≡ from) × (new ≡ to)
Exchanges c turn old new = ⊥

-- the one that resets Threshold, the one that takes an index, the one that counts a failed attempt
abbrev pub IsReset : Phase → Type 0
IsReset (AtE6 r i w t) = Unit {0}
IsReset turn = ⊥

abbrev pub IsTakingTurn : Phase → Type 0
IsTakingTurn (AtD4 r h) = Unit {0}
IsTakingTurn turn = ⊥

abbrev pub IsCountDown : Phase → Type 0
IsCountDown (AtD10 r h leaving) = Unit {0}
IsCountDown turn = ⊥
