-- For private calls: one turn, on lists: a ring with another word, and the seat's part afterwards.
use Rattle.std.specs.Prelude.{ℕ, ◌≡◌, ◌<◌, ◌⊎◌, true, List, Some, slice_set}
use Rattle.scq_word.specs.declared.setup.Setup.{Setup}
use Rattle.scq_core.specs.declared.phase.Phase.{Phase}
use Rattle.scq_core.specs.declared.step.Step.{Step}
use Rattle.scq_core.specs.Machine.{SeatPart}
use Rattle.scq_core.specs.Table.{writes, stores, after, turn_of, ring_of, cell_of}
use Rattle.scq_core.specs.Rings.{RingLists, word_in, content_in, ring_with}
use Rattle.scq_core.specs.StateLists.{ring_in, no_slot}
use Rattle.scq_core.specs.Turn.{copies_content, ends_call, IsReady}

-- the word that a turn finds
abbrev pub found_by : Setup → List RingLists → Phase → ℕ
found_by c rings turn = word_in (no_slot c) (ring_in c rings (ring_of turn)) (cell_of c turn)

-- the content beside the word that a turn finds
abbrev pub beside_by : Setup → List RingLists → Phase → List ℕ
beside_by c rings turn = content_in (no_slot c) (ring_in c rings (ring_of turn)) (cell_of c turn)

-- the turn is on one of the rings, and its arithmetic has what it stands on
pub record CanTurn (c : Setup) (rings : List RingLists) (turn : Phase) : Type 0 where
  pub ring : ring_of turn < c.rings
  pub ready : IsReady c turn (found_by c rings turn)

-- the rings after the turn: one word of one ring is another, and beside an entry its content
abbrev pub rings_after : Setup → List RingLists → Phase → List RingLists
rings_after c rings turn =
    slice_set
    rings
    (ring_of turn)
    (ring_with (ring_in c rings (ring_of turn)) (cell_of c turn)
    (writes c turn (found_by c rings turn))
    (stores turn (found_by c rings turn) (beside_by c rings turn)))

-- the seat's part after the turn
abbrev pub part_by : Setup → List RingLists → Phase → SeatPart → SeatPart
part_by c rings turn p = after c turn (found_by c rings turn) (beside_by c rings turn) p

-- a step takes memory only where it copies a content or ends its call
abbrev pub WantsMemory : Setup → SeatPart → Step → List RingLists → Type 0
WantsMemory c seat step rings =
    (copies_content step ≡ true) ⊎ ((turn : Phase) → turn_of c seat step ≡ Some turn
    → ends_call c turn (found_by c rings turn) ≡ true)

-- a seat's step makes a turn of it
pub record Advances (c : Setup) (step : Step) (rings : List RingLists) (seat : SeatPart)
    (rings_then : List RingLists) (seat_then : SeatPart) : Type 0 where
  pub turn : Phase
  pub enabled : turn_of c seat step ≡ Some turn
  pub words : rings_then ≡ rings_after c rings turn
  pub part : seat_then ≡ part_by c rings turn seat
