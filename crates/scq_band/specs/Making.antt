-- For private calls: what a band is made of.
use Rattle.std.specs.Prelude.{◌≡◌, ◌⊎◌, ℕ, ◌<◌, ◌≤◌, Bool, List, [], ◌∷◌, length, All, slice_index}
use Rattle.std.specs.Prelude.{Option, Some, None, vec_capacity}
use Rattle.scq_word.specs.declared.setup.Setup.{Setup}
use Rattle.scq_word.specs.Exports.{n_of}
use Rattle.scq_core.specs.Exports.{Location, read, start_cells, start_of, machine_of}
use Rattle.scq_core.specs.StateLists.{StateLists}
use Rattle.scq_band.specs.Slots.{SlotStanding}
use Rattle.scq_band.specs.declared.making.Room.{Room}
use Rattle.scq_band.specs.declared.making.Memory.{Memory}
use Rattle.scq_band.specs.Layout.{ring_at, IsLocation, number_in_ring, gate_word, word_count, at}
use Rattle.scq_band.specs.Known.{Known}
use Rattle.scq_band.specs.Shown.{first_view, first_members}
use Rattle.scq_band.specs.Numbers.{first_numbers}
use Rattle.scq_band.specs.Rings.{AreRings}
use Rattle.scq_band.specs.Kept.{noted}
use Rattle.scq_band.specs.RunSeen.{nothing_seen}
use Rattle.scq_band.specs.Sights.{Sight}

-- a buffer is laid in the slot
abbrev pub HasBuffer : {B : Type 0} → SlotStanding B → Type 0
HasBuffer {B} slot = (b : B) × (slot.buffer ≡ Some b)

abbrev pub AllLaid : {B : Type 0} → List (SlotStanding B) → Type 0
AllLaid [] = Unit {0}
AllLaid (x ∷ xs) = HasBuffer x × AllLaid xs

-- the buffers that are laid in slots
abbrev lifted_from : {B : Type 0} → Option B → List B → List B
lifted_from None bs = bs
lifted_from (Some b) bs = b ∷ bs

abbrev pub lifted : {B : Type 0} → List (SlotStanding B) → List B
lifted [] = []
lifted (x ∷ xs) = lifted_from x.buffer (lifted xs)

-- of each index it is noted that it isn't held
pub record HoldsNone (c : Setup) (held : List Bool) : Type 0 where
  pub each : length held ≡ n_of c.order
  pub none : (i : ℕ) → noted held i ≡ 0

-- the room of one seat
pub record IsRoom (c : Setup) (room : Room) : Type 0 where
  pub held : HoldsNone c room.held.items
  pub known : room.numbers.items ≡ first_numbers c c.rings

-- a location of a ring before r, or in r one of the first o of Tail, Head, Threshold and the
-- entries by slot
abbrev pub IsLocatedBefore : ℕ → ℕ → Location → Type 0
IsLocatedBefore r o l = (ring_at l < r) ⊎ ((ring_at l ≡ r) × (number_in_ring l < o))

-- the words of a table, of which the gate and those before stand as they do at the start
pub record WordsAreOpened (c : Setup) (words : List ℕ) (r o : ℕ) : Type 0 where
  pub count : length words ≡ word_count c
  pub gate : slice_index words gate_word ≡ c.seats
  pub shows : (l : Location) → IsLocation c l → IsLocatedBefore r o l
      → slice_index words (at c l) ≡ read (start_cells c []) l

-- the memory of a band
pub record IsMemory (c : Setup) (memory : Memory) : Type 0 where
  pub opened : WordsAreOpened c memory.words.items c.rings 0
  pub none_left : memory.left.items ≡ []
  pub each_ring : c.rings ≤ vec_capacity memory.left
  pub rings : AreRings c c.rings memory.rings.items
  pub seats : length memory.rooms.items ≡ c.seats
  pub each_room : All (IsRoom c) memory.rooms.items

-- a state at its start
pub record IsOfStart (state : StateLists) : Type 0 where
  pub contents : List (List ℕ)
  pub start : machine_of state ≡ start_of state.setup contents

-- the first view, once the seats at or past a number were split off
abbrev pub first_below : Setup → ℕ → Known
first_below c k = record (first_view c) { seats = first_members k }

abbrev pub sight_below : Setup → ℕ → Sight
sight_below c k = record { known = first_below c k; seen = nothing_seen }
