-- The pieces of a turn, put together: what was read, written and laid beside, and what became of the seat.
use Rattle.std.proofs.Common.{◌≡◌, ℕ, ◌<◌, ◌↔◌, inr, refl, sym, ◌∙◌, ap, subst, arith, Option, Some, None, Result, Ok, Err, List, length}
use Rattle.std.specs.Prelude.{is_some, unwrap_or, slice_index_or, slice_set, true}
use Rattle.std.specs.Result.{IsErrAnd}
use Rattle.std.proofs.lemmas.Grind.{common_steps}
use Rattle.std.proofs.lemmas.List.{get_or_default}
use Rattle.scq_word.specs.declared.setup.Setup.{Setup}
use Rattle.scq_core.specs.declared.advance.ApplyFault.{ApplyFault}
use Rattle.scq_core.specs.declared.advance.ApplyFault.TheVariants.{NotEnabled, NoMemory}
use Rattle.scq_core.specs.declared.phase.Phase.{Phase}
use Rattle.scq_core.specs.declared.step.Step.{Step}
use Rattle.scq_core.specs.declared.slot.Cell.{Cell}
use Rattle.scq_core.specs.declared.slot.Slot.{Slot}
use Rattle.scq_core.specs.Exports.{SeatPart, writes, stores, after, turn_of, ring_of, cell_of, RingLists, IsCell, word_in, content_in, ring_with}
use Rattle.scq_core.specs.Exports.{ring_in, no_slot, no_ring, HasRings, copied, started, ends_call, found_by, beside_by, WantsMemory, Advances}
use Rattle.scq_core.specs.Exports.{CanTurn, IsReady, copies_content, needs_copy}
use Rattle.scq_core.proofs.TurnCells.{is_cell}
use Rattle.scq_core.proofs.Turns.{enabled_turn}

-- the ring that was indexed is the turn's
pub ring_read : (c : Setup) (rings : List RingLists) (i : ℕ) (ring : RingLists) → i < length rings → ring ≡ slice_index_or rings i ring
    → ring ≡ ring_in c rings i
ring_read c rings i ring low is = is ∙ get_or_default rings i ring (no_ring c) low

pub cell_fits : (c : Setup) (rings : List RingLists) (turn : Phase) (i : ℕ) (ring : RingLists) (p : Cell) → HasRings c rings → ring_of turn < c.rings
    → i ≡ ring_of turn → ring ≡ slice_index_or rings i ring → p ≡ cell_of c turn → IsCell ring p
cell_fits c rings turn i ring p has low at is cell =
    let within : i < length rings = omega (arith, has.0) in
    rw (ring_read c rings i ring within is, at, cell) (is_cell c rings turn has low)

pub turn_is : (c : Setup) (seat : SeatPart) (step : Step) (begun : Option Phase) (turn : Phase) → is_some (turn_of c seat step) ≡ true → begun ≡ started step
    → turn ≡ unwrap_or begun seat.phase → turn_of c seat step ≡ Some turn
turn_is c seat step begun turn enabled begins is =
    enabled_turn c seat.hand seat.spent seat.phase step enabled ∙ ap Some (sym (is ∙ ap (λ (o : Option Phase). unwrap_or o seat.phase) begins))

-- Plan: the ring that was read and the one that is written are the turn's, so the word found, the content beside it and the
-- ring afterwards are those of the table.
pub advanced : (c : Setup) (step : Step) (rings : List RingLists) (seat seat_then : SeatPart) (turn : Phase) (i : ℕ) (ring lent ring_then : RingLists) (p : Cell)
    (found word : ℕ) (beside copy : List ℕ) (laid : Option (List ℕ)) → HasRings c rings → ring_of turn < c.rings → turn_of c seat step ≡ Some turn
    → i ≡ ring_of turn → ring ≡ slice_index_or rings i ring → lent ≡ slice_index_or rings i lent → p ≡ cell_of c turn
    → ((past : Slot) → beside ≡ content_in past ring p) → copy ≡ copied turn beside → ((past : Slot) → found ≡ word_in past ring p)
    → word ≡ writes c turn found → ((b : List ℕ) → copied turn b ≡ copy → seat_then ≡ after c turn found b seat)
    → ((b : List ℕ) → copied turn b ≡ copy → unwrap_or laid b ≡ stores turn found b)
    → ((past : Slot) → ring_then ≡ ring_with lent p word (unwrap_or laid (content_in past lent p)))
    → Advances c step rings seat (slice_set rings i ring_then) seat_then
advanced c step rings seat seat_then turn i ring lent ring_then p found word beside copy laid has low enabled at is lent_is cell stands copy_is found_is
    word_is part lays writes_it =
    let within : i < length rings = omega (arith, has.0) in
    let past = no_slot c in
    let one : ring ≡ ring_in c rings (ring_of turn) = ring_read c rings i ring within is ∙ ap (ring_in c rings) at in
    let same : lent ≡ ring_in c rings (ring_of turn) = ring_read c rings i lent within lent_is ∙ ap (ring_in c rings) at in
    let read : found ≡ found_by c rings turn = rw (← one, ← cell) (found_is past) in
    let near : beside ≡ beside_by c rings turn = rw (← one, ← cell) (stands past) in
    let lies : content_in past lent p ≡ beside = rw (same, ← one) (sym (stands past)) in
    let left : ring_then ≡ ring_with lent p word (stores turn found beside) = rw (← lays beside (sym copy_is), ← lies) (writes_it past) in
    record {
      turn = turn;
      enabled = enabled;
      words = rw (left, same, word_is, cell, read, near, at) refl;
      part = rw (← read, ← near) (part beside (sym copy_is));
    }

-- the word that was read is the one that the turn finds
found_is_read : (c : Setup) (rings : List RingLists) (turn : Phase) (i : ℕ) (ring : RingLists) (p : Cell) (found : ℕ) → HasRings c rings
    → ring_of turn < c.rings → i ≡ ring_of turn → ring ≡ slice_index_or rings i ring → p ≡ cell_of c turn
    → ((past : Slot) → found ≡ word_in past ring p) → found ≡ found_by c rings turn
found_is_read c rings turn i ring p found has low at is cell found_is =
    let within : i < length rings = omega (arith, has.0) in
    let one : ring ≡ ring_in c rings (ring_of turn) = ring_read c rings i ring within is ∙ ap (ring_in c rings) at in
    rw (← one, ← cell) (found_is (no_slot c))

pub is_ready : (c : Setup) (rings : List RingLists) (turn : Phase) (i : ℕ) (ring : RingLists) (p : Cell) (found : ℕ) → HasRings c rings
    → CanTurn c rings turn → i ≡ ring_of turn → ring ≡ slice_index_or rings i ring → p ≡ cell_of c turn
    → ((past : Slot) → found ≡ word_in past ring p) → IsReady c turn found
is_ready c rings turn i ring p found has can at is cell found_is =
    rw (found_is_read c rings turn i ring p found has can.ring at is cell found_is) can.ready

-- a step that is enabled isn't answered with NotEnabled
pub wanted : (result : Result (Unit {0}) ApplyFault) → IsErrAnd result (λ fault. fault ≡ NoMemory) → ¬ (result ≡ Err NotEnabled)
wanted (Ok u) h = λ e. absurd cc
wanted (Err fault) h = λ e. absurd cc

pub enabled_fault : (turn : Option Phase) (result : Result (Unit {0}) ApplyFault) → is_some turn ≡ true → ¬ (result ≡ Err NotEnabled)
    → (result ≡ Err NotEnabled) ↔ (turn ≡ None)
enabled_fault (Some turn) result enabled other = (λ e. absurd (other e), λ none. absurd cc)
enabled_fault None result enabled other = absurd cc

-- a turn that copies a content is of a step that does
pub wants_copy : (c : Setup) (seat : SeatPart) (step : Step) (turn : Phase) → turn_of c seat step ≡ Some turn → needs_copy turn ≡ true
    → copies_content step ≡ true
wants_copy c seat step turn is needs = grind (arith, common_steps)

-- the call that couldn't be recorded ends
pub wants_end : (c : Setup) (step : Step) (rings : List RingLists) (seat : SeatPart) (turn : Phase) (i : ℕ) (ring : RingLists) (p : Cell) (found : ℕ)
    → HasRings c rings → ring_of turn < c.rings → turn_of c seat step ≡ Some turn → i ≡ ring_of turn → ring ≡ slice_index_or rings i ring
    → p ≡ cell_of c turn → ((past : Slot) → found ≡ word_in past ring p) → ends_call c turn found ≡ true → WantsMemory c seat step rings
wants_end c step rings seat turn i ring p found has low enabled at is cell found_is ends =
    let read = found_is_read c rings turn i ring p found has low at is cell found_is in
    let here : ends_call c turn (found_by c rings turn) ≡ true = rw (← read) ends in
    inr (λ other other_is. let same : turn ≡ other = cc in subst (λ t. ends_call c t (found_by c rings t) ≡ true) same here)
