-- A state as lists, and the machine's state that it stands for.
use Rattle.std.specs.Prelude.{ℕ, ◌≡◌, ◌-◌, ◌<◌, List, [], length, slice_index_or}
use Rattle.scq_word.specs.declared.setup.Setup.{Setup}
use Rattle.scq_core.specs.declared.slot.Slot.{Slot}
use Rattle.scq_core.specs.declared.slot.Cell.{Cell}
use Rattle.scq_core.specs.declared.slot.Cell.TheVariants.{Entry}
use Rattle.scq_core.specs.Machine.{Cells, SeatPart, Machine}
use Rattle.scq_core.specs.Table.{ring_slots, zero_level}
use Rattle.scq_core.specs.Start.{unused, idle_part}
use Rattle.scq_core.specs.Reach.{IsReachable}
use Rattle.scq_core.specs.Rings.{RingLists}

-- the setup, the rings and the seats by number, and the opening contents
pub record StateLists : Type 0 where
  pub setup : Setup
  pub rings : List RingLists
  pub seats : List SeatPart
  pub opening : List (List ℕ)

-- past the last slot and the last ring stands what was never used
abbrev pub no_slot : Setup → Slot
no_slot c = record { word = unused (ring_slots c); content = [] }

abbrev pub no_ring : Setup → RingLists
no_ring c = record {
  tail = ring_slots c;
  head = ring_slots c;
  threshold = zero_level - 1;
  slots =
      [];
}

-- the ring of a number
abbrev pub ring_in : Setup → List RingLists → ℕ → RingLists
ring_in c rings r = slice_index_or rings r (no_ring c)

-- the slot of a number in it
abbrev pub slot_in : Setup → List RingLists → ℕ → ℕ → Slot
slot_in c rings r s = slice_index_or (ring_in c rings r).slots s (no_slot c)

-- the words and contents of the machine
abbrev pub cells_of : Setup → List RingLists → Cells
cells_of c rings =
    record {
      tail = λ r. (ring_in c rings r).tail;
      head = λ r. (ring_in c rings r).head;
      threshold = λ r. (ring_in c rings r).threshold;
      entries = record {
        word = λ r s. (slot_in c rings r s).word;
        content =
            λ r s. (slot_in c rings r s).content;
      };
    }

-- the part of the seat of a number
abbrev pub part_in : List SeatPart → ℕ → SeatPart
part_in seats k = slice_index_or seats k idle_part

-- the state of the machine
abbrev pub machine_of : StateLists → Machine
machine_of b = record {
  cells = cells_of b.setup b.rings;
  part = part_in b.seats;
  opening =
      b.opening;
}

-- every ring has two slots for each index
abbrev pub HasRings : Setup → List RingLists → Type 0
HasRings c rings = (length rings ≡ c.rings) × ((r : ℕ) → r < c.rings
    → length (ring_in c rings r).slots ≡ ring_slots c)

-- a cell of any ring: a slot is one of so many
abbrev pub IsCellOf : Setup → Cell → Type 0
IsCellOf c (Entry slot) = slot < ring_slots c
IsCellOf c cell = Unit {0}

-- the lists are as long as the setup says, and steps reach the state
pub record IsState (b : StateLists) : Type 0 where
  pub rings : HasRings b.setup b.rings
  pub seats : length b.seats ≡ b.setup.seats
  pub reachable : IsReachable b.setup (machine_of b)
