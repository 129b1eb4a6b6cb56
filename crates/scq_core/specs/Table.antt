-- The step table. A seat's next step is its phase, or the first step of a call that it begins: its
-- turn. A turn reads one word of one ring, writes that word and nothing else there, and changes its
-- own seat's part. The letters: c setup; m cells, or the whole state; p a seat's part; r ring; i
-- index; w content of a put; t ticket of an enqueue; h ticket of a dequeue; e word of the entry
-- that was loaded; l least number that the step will find, at an entry its rank; x word that the
-- turn finds; y content beside it.
use Rattle.std.specs.Prelude.{ℕ, ◌+◌, ◌-◌, ◌^◌, Bool, true, false, ◌==◌, ◌&&◌, not, nat_lt, nat_le}
use Rattle.std.specs.Prelude.{if◌then◌else◌, List, [], ◌∷◌, ◌++◌, filter, Option, Some, None}
use Rattle.std.specs.Prelude.{is_none}
use Rattle.std.specs.List.{list_any}
use Rattle.std.specs.Option.{option_map}
use Rattle.scq_word.specs.declared.setup.Setup.{Setup}
use Rattle.scq_word.specs.Exports.{n_of, slots_of, cycle_of, slot_of, reset_value, mark_of, packed}
use Rattle.scq_word.specs.Exports.{index_in, safe_in, cycle_in, is_none_in, rank_in}
use Rattle.scq_core.specs.declared.ended.Ended.{Ended}
use Rattle.scq_core.specs.declared.ended.Ended.TheVariants.{Done, Got, Nothing, Spent}
use Rattle.scq_core.specs.declared.phase.Phase.{Phase}
use Rattle.scq_core.specs.declared.phase.Phase.TheVariants.{Idle, AtE1, AtE2, AtE3, AtE4, AtE5}
use Rattle.scq_core.specs.declared.phase.Phase.TheVariants.{AtE6, AtD1, AtD2, AtD3, AtD4, AtD5}
use Rattle.scq_core.specs.declared.phase.Phase.TheVariants.{AtD6, AtD7, AtD8, AtD9, AtD10}
use Rattle.scq_core.specs.declared.slot.Cell.{Cell}
use Rattle.scq_core.specs.declared.slot.Cell.TheVariants.{Tail, Head, Threshold, Entry}
use Rattle.scq_core.specs.declared.step.Step.{Step}
use Rattle.scq_core.specs.declared.step.Step.TheVariants.{E1, E1Again, E2, E3, E4, E5, E6, D1, D2}
use Rattle.scq_core.specs.declared.step.Step.TheVariants.{D3, D4, D5, D6, D7, D8, D9, D10}
use Rattle.scq_core.specs.Updated.{updated}
use Rattle.scq_core.specs.Machine.{Cells, SeatPart, Machine, Location, location_at, read, beside}
use Rattle.scq_core.specs.Machine.{written}

-- the word that stands for a Threshold of 0
unfoldable pub zero_level : ℕ
zero_level = 2 ^ 32

-- the word of what Threshold is reset to once an index was placed
abbrev pub reset_level : Setup → ℕ
reset_level c = zero_level + reset_value c.order c.seats

-- how many slots a ring has: 2n
abbrev pub ring_slots : Setup → ℕ
ring_slots c = slots_of c.order

-- the cycle of a ticket, and its slot
abbrev pub cycle : Setup → ℕ → ℕ
cycle c ticket = cycle_of (ring_slots c) ticket

abbrev pub slot : Setup → ℕ → ℕ
slot c ticket = slot_of c.order ticket

-- a hand with this index taken out
abbrev pub hand_without : ℕ → List ℕ → List ℕ
hand_without index hand = filter (λ i. not (i == index)) hand

abbrev pub holds_index : List ℕ → ℕ → Bool
holds_index hand index = list_any (λ i. i == index) hand

-- the turn of a seat with this hand, kept ticket and phase, where the step is enabled. A seat in
-- the middle of a call keeps no spent ticket
abbrev pub turn_at : Setup → List ℕ → Option ℕ → Phase → Step → Option Phase
turn_at c hand spent Idle (E1 r i w) =
    if is_none spent && nat_lt r c.rings && nat_lt i (n_of c.order) && holds_index hand i
    then Some (AtE1 r i w 0) else None
turn_at c hand spent Idle (D1 r) = if is_none spent && nat_lt r c.rings then Some (AtD1 r) else None
turn_at c hand spent (AtE1 r i w l) E1Again = Some (AtE1 r i w l)
turn_at c hand spent (AtE2 r i w t l) E2 = Some (AtE2 r i w t l)
turn_at c hand spent (AtE3 r i w t e) E3 = Some (AtE3 r i w t e)
turn_at c hand spent (AtE4 r i w t e) E4 = Some (AtE4 r i w t e)
turn_at c hand spent (AtE5 r i w t) E5 = Some (AtE5 r i w t)
turn_at c hand spent (AtE6 r i w t) E6 = Some (AtE6 r i w t)
turn_at c hand spent (AtD2 r l) D2 = Some (AtD2 r l)
turn_at c hand spent (AtD3 r h l) D3 = Some (AtD3 r h l)
turn_at c hand spent (AtD4 r h) D4 = Some (AtD4 r h)
turn_at c hand spent (AtD5 r h e) D5 = Some (AtD5 r h e)
turn_at c hand spent (AtD6 r h) D6 = Some (AtD6 r h)
turn_at c hand spent (AtD7 r h from to) D7 = Some (AtD7 r h from to)
turn_at c hand spent (AtD8 r h from) D8 = Some (AtD8 r h from)
turn_at c hand spent (AtD9 r h from to) D9 = Some (AtD9 r h from to)
turn_at c hand spent (AtD10 r h leaving) D10 = Some (AtD10 r h leaving)
turn_at c hand spent phase step = None

abbrev pub turn_of : Setup → SeatPart → Step → Option Phase
turn_of c p step = turn_at c p.hand p.spent p.phase step

-- the one step that a seat in the middle of a call makes next
abbrev pub next_step : Phase → Option Step
next_step (AtE1 r i w l) = Some E1Again
next_step (AtE2 r i w t l) = Some E2
next_step (AtE3 r i w t e) = Some E3
next_step (AtE4 r i w t e) = Some E4
next_step (AtE5 r i w t) = Some E5
next_step (AtE6 r i w t) = Some E6
next_step (AtD2 r l) = Some D2
next_step (AtD3 r h l) = Some D3
next_step (AtD4 r h) = Some D4
next_step (AtD5 r h e) = Some D5
next_step (AtD6 r h) = Some D6
next_step (AtD7 r h from to) = Some D7
next_step (AtD8 r h from) = Some D8
next_step (AtD9 r h from to) = Some D9
next_step (AtD10 r h leaving) = Some D10
next_step phase = None

-- the ring of a turn. Idle is no turn: its line is never used
abbrev pub ring_of : Phase → ℕ
ring_of Idle = 0
ring_of (AtE1 r i w l) = r
ring_of (AtE2 r i w t l) = r
ring_of (AtE3 r i w t e) = r
ring_of (AtE4 r i w t e) = r
ring_of (AtE5 r i w t) = r
ring_of (AtE6 r i w t) = r
ring_of (AtD1 r) = r
ring_of (AtD2 r l) = r
ring_of (AtD3 r h l) = r
ring_of (AtD4 r h) = r
ring_of (AtD5 r h e) = r
ring_of (AtD6 r h) = r
ring_of (AtD7 r h from to) = r
ring_of (AtD8 r h from) = r
ring_of (AtD9 r h from to) = r
ring_of (AtD10 r h leaving) = r

-- the cell of that ring that the turn reads and writes
abbrev pub cell_of : Setup → Phase → Cell
cell_of c Idle = Tail
cell_of c (AtE1 r i w l) = Tail
cell_of c (AtE2 r i w t l) = Entry (slot c t)
cell_of c (AtE3 r i w t e) = Head
cell_of c (AtE4 r i w t e) = Entry (slot c t)
cell_of c (AtE5 r i w t) = Threshold
cell_of c (AtE6 r i w t) = Threshold
cell_of c (AtD1 r) = Threshold
cell_of c (AtD2 r l) = Head
cell_of c (AtD3 r h l) = Entry (slot c h)
cell_of c (AtD4 r h) = Entry (slot c h)
cell_of c (AtD5 r h e) = Entry (slot c h)
cell_of c (AtD6 r h) = Tail
cell_of c (AtD7 r h from to) = Tail
cell_of c (AtD8 r h from) = Head
cell_of c (AtD9 r h from to) = Tail
cell_of c (AtD10 r h leaving) = Threshold

-- the location that a turn reads and writes
abbrev pub location_of : Setup → Phase → Location
location_of c turn = location_at (ring_of turn) (cell_of c turn)

-- an entry that a dequeue with a later ticket found: moved to that ticket's cycle where it has no
-- index, else marked unsafe
abbrev pub passed : Setup → ℕ → ℕ → ℕ
passed c h e =
    if is_none_in (ring_slots c) e
    then packed (ring_slots c) (cycle c h) (safe_in (ring_slots c) e) (mark_of (ring_slots c))
    else packed (ring_slots c) (cycle_in (ring_slots c) e) 0 (index_in (ring_slots c) e)

-- what a turn writes where it found x; a turn that only reads writes what it found
abbrev pub writes : Setup → Phase → ℕ → ℕ
writes c (AtE1 r i w l) x = x + 1
writes c (AtE4 r i w t e) x = if x == e then packed (ring_slots c) (cycle c t) 1 i else x
writes c (AtE6 r i w t) x = reset_level c
writes c (AtD2 r l) x = x + 1
writes c (AtD4 r h) x =
    packed (ring_slots c) (cycle_in (ring_slots c) x) (safe_in (ring_slots c) x)
    (mark_of (ring_slots c))
writes c (AtD5 r h e) x = if x == e then passed c h e else x
writes c (AtD7 r h from to) x = if x == from then to else x
writes c (AtD10 r h leaving) x = x - 1
writes c turn x = x

-- the content beside an entry afterwards, where the turn found the word x and the content y: a put
-- places its own
abbrev pub stores : Phase → ℕ → List ℕ → List ℕ
stores (AtE4 r i w t e) x y = if x == e then w else y
stores turn x y = y

-- a seat's part where its call goes on
abbrev pub goes_on : Phase → SeatPart → SeatPart
goes_on phase p = record p { phase = phase }

-- a seat's part where its call ends so
abbrev pub ends : Ended → SeatPart → SeatPart
ends ended p = record p { phase = Idle; calls = p.calls ++ ended ∷ [] }

-- a seat's part where its call drew a ticket at or past the limit
abbrev pub spends : ℕ → ℕ → Bool → SeatPart → SeatPart
spends r ticket is_put p = record (ends (Spent r ticket is_put) p) { spent = Some ticket }

-- the part of a seat after its turn, which found the word x and beside it the content y
abbrev pub after : Setup → Phase → ℕ → List ℕ → SeatPart → SeatPart
after c Idle x y p = p
after c (AtE1 r i w l) x y p =
    if nat_le c.limit x then spends r x true p else goes_on (AtE2 r i w x 0) p
after c (AtE2 r i w t l) x y p =
    if nat_lt (cycle_in (ring_slots c) x) (cycle c t) && is_none_in (ring_slots c) x
    then (if safe_in (ring_slots c) x == 1 then goes_on (AtE4 r i w t x) p
    else goes_on (AtE3 r i w t x) p)
    else goes_on (AtE1 r i w (t + 1)) p
after c (AtE3 r i w t e) x y p =
    if nat_le x t then goes_on (AtE4 r i w t e) p else goes_on (AtE1 r i w (t + 1)) p
after c (AtE4 r i w t e) x y p =
    if x == e
    then goes_on (AtE5 r i w t) (record p { hand = hand_without i p.hand })
    else goes_on (AtE2 r i w t (rank_in (ring_slots c) x)) p
after c (AtE5 r i w t) x y p =
    if x == reset_level c then ends (Done r t w) p else goes_on (AtE6 r i w t) p
after c (AtE6 r i w t) x y p = ends (Done r t w) p
after c (AtD1 r) x y p = if nat_lt x zero_level then ends (Nothing r) p else goes_on (AtD2 r 0) p
after c (AtD2 r l) x y p = if nat_le c.limit x then spends r x false p else goes_on (AtD3 r x 0) p
after c (AtD3 r h l) x y p =
    if cycle_in (ring_slots c) x == cycle c h
    then goes_on (AtD4 r h) p
    else (if nat_lt (cycle_in (ring_slots c) x) (cycle c h) then goes_on (AtD5 r h x) p
    else goes_on (AtD6 r h) p)
after c (AtD4 r h) x y p =
    ends (Got r h y) (record p { hand = p.hand ++ index_in (ring_slots c) x ∷ [] })
after c (AtD5 r h e) x y p =
    if x == e then goes_on (AtD6 r h) p else goes_on (AtD3 r h (rank_in (ring_slots c) x)) p
after c (AtD6 r h) x y p =
    if nat_le x (h + 1) then goes_on (AtD7 r h x (h + 1)) p else goes_on (AtD10 r h false) p
after c (AtD7 r h from to) x y p =
    if x == from then goes_on (AtD10 r h true) p else goes_on (AtD8 r h from) p
after c (AtD8 r h from) x y p = goes_on (AtD9 r h from x) p
after c (AtD9 r h from to) x y p =
    if nat_le to x then goes_on (AtD10 r h true) p else goes_on (AtD7 r h x to) p
after c (AtD10 r h true) x y p = ends (Nothing r) p
after c (AtD10 r h false) x y p =
    if nat_le x zero_level then ends (Nothing r) p else goes_on (AtD2 r (h + 1)) p

-- the cells after a turn
abbrev pub cells_after : Setup → Phase → Cells → Cells
cells_after c turn m =
    let location = location_of c turn in
    written m location (writes c turn (read m location))
    (stores turn (read m location) (beside m location))

-- the state after a turn of a seat
abbrev pub moved : Setup → Machine → ℕ → Phase → Machine
moved c m seat turn =
    let location = location_of c turn in
    record {
      cells = cells_after c turn m.cells;
      part = updated m.part seat
          (after c turn (read m.cells location) (beside m.cells location) (m.part seat));
      opening = m.opening;
    }

-- what one line of the table does: the state after a step of a seat, or None where no line allows
-- it. That the seat is one of the setup's is asked where steps are joined to runs
abbrev pub step_of : Setup → Machine → ℕ → Step → Option Machine
step_of c m seat step = option_map (moved c m seat) (turn_of c (m.part seat) step)
