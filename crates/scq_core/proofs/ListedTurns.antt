-- A state as lists makes the machine's step: a ring with another word is the machine with that word written, and what a turn
-- stands on is there on every reachable state.
use Rattle.std.proofs.Common.{◌≡◌, ℕ, ◌<◌, refl, sym, ◌∙◌, ap, inl, inr, arith, List, length, eq-eqb, ne_eqb, Some}
use Rattle.std.specs.Prelude.{slice_index_or, slice_set}
use Rattle.std.proofs.lemmas.List.{set-get_or, get_or_default}
use Rattle.std.specs.Prelude.{Result, Ok, Err, OnOk, OnErr}
use Rattle.scq_core.specs.declared.advance.ApplyFault.{ApplyFault}
use Rattle.std.proofs.lemmas.List.{length-set, get_or-set_same, get_or-set_other}
use Rattle.std.proofs.lemmas.Bool.{cases_eq}
use Rattle.scq_word.specs.declared.setup.Setup.{Setup}
use Rattle.scq_core.specs.declared.phase.Phase.{Phase}
use Rattle.scq_core.specs.declared.step.Step.{Step}
use Rattle.scq_core.specs.declared.slot.Cell.{Cell}
use Rattle.scq_core.specs.declared.slot.Cell.TheVariants as cell
use Rattle.scq_core.specs.declared.slot.Slot.{Slot}
use Rattle.scq_core.specs.Exports.{updated, Cells, Entries, SeatPart, location_at, read, beside, written, turn_of, location_of, writes, stores, after}
use Rattle.scq_core.specs.Exports.{cells_after, moved, step_of, ring_of, cell_of, idle_part, by_step, RingLists, IsCell, ring_with, no_slot, no_ring}
use Rattle.scq_core.specs.Exports.{ring_in, cells_of, part_in, machine_of, HasRings, IsState, found_by, beside_by, CanTurn, rings_after, Advances}
use Rattle.scq_core.specs.Machine.{Machine}
use Rattle.scq_core.specs.StateLists.{StateLists}
use Rattle.scq_core.proofs.UpdatedLemmas.{updated_same}
use Rattle.scq_core.proofs.Readiness.{enabled_ready}
use Rattle.scq_core.proofs.TurnCells.{read-cell, beside-cell, is_cell}

set_at : {A : Type 0} → (xs : List A) (i : ℕ) (x d : A) → i < length xs → (j : ℕ)
    → slice_index_or (slice_set xs i x) j d ≡ updated (λ k. slice_index_or xs k d) i x j
set_at xs i x d low j =
    elim (cases_eq j i) [
      | inl same ↦ rw (same, eq-eqb i i refl) (get_or-set_same xs i x d low)
      | inr apart ↦ rw (ne_eqb j i apart) (get_or-set_other xs i j x d apart)
    ]

-- a list that is written is the function of its cells that is written
pub set_is : {A : Type 0} → (xs : List A) (i : ℕ) (x d : A) → i < length xs
    → (λ j. slice_index_or (slice_set xs i x) j d) ≡ updated (λ j. slice_index_or xs j d) i x
set_is xs i x d low k j = set_at xs i x d low j k

updated_of : {A B : Type 0} → (f : A → B) (g : ℕ → A) (i : ℕ) (x : A) (j : ℕ) → f (updated g i x j) ≡ updated (λ k. f (g k)) i (f x) j
updated_of f g i x j =
    elim (cases_eq j i) [ inl same ↦ rw (eq-eqb j i same) refl | inr apart ↦ rw (ne_eqb j i apart) refl ]

-- what is read off each ring, after one of them was changed
field : {A : Type 0} → (c : Setup) (f : RingLists → A) (rings : List RingLists) (r : ℕ) (new : RingLists) → r < length rings
    → (λ q. f (ring_in c (slice_set rings r new) q)) ≡ updated (λ q. f (ring_in c rings q)) r (f new)
field c f rings r new low k j = (ap f (set_at rings r new (no_ring c) low j) ∙ updated_of f (ring_in c rings) r new j) k

-- and where it did not change there
still : {A : Type 0} → (c : Setup) (f : RingLists → A) (rings : List RingLists) (r : ℕ) (new : RingLists) → r < length rings → f new ≡ f (ring_in c rings r)
    → ◌≡◌ {A = ℕ → A} (λ q. f (ring_in c (slice_set rings r new) q)) (λ q. f (ring_in c rings q))
still c f rings r new low same = field c f rings r new low ∙ rw same (updated_same (λ q. f (ring_in c rings q)) r)

pub same_cells : (t h x : ℕ → ℕ) (e : Entries) (t' h' x' : ℕ → ℕ) (e' : Entries) → t ≡ t' → h ≡ h' → x ≡ x' → e ≡ e'
    → (let m : Cells = record { tail = t; head = h; threshold = x; entries = e } in m) ≡ record { tail = t'; head = h'; threshold = x'; entries = e' }
same_cells t h x e t' h' x' e' a b d f = rw (a, b, d, f) refl

pub same_entries : (w w' : ℕ → ℕ → ℕ) (y y' : ℕ → ℕ → List ℕ) → w ≡ w' → y ≡ y'
    → (let e : Entries = record { word = w; content = y } in e) ≡ record { word = w'; content = y' }
same_entries w w' y y' a b = rw (a, b) refl

abbrev words_in : Setup → RingLists → ℕ → ℕ
words_in c ring s = (slice_index_or ring.slots s (no_slot c)).word

abbrev contents_in : Setup → RingLists → ℕ → List ℕ
contents_in c ring s = (slice_index_or ring.slots s (no_slot c)).content

slot_word : (c : Setup) (ring : RingLists) (s : ℕ) (new : Slot) → s < length ring.slots
    → (λ z. (slice_index_or (slice_set ring.slots s new) z (no_slot c)).word) ≡ updated (words_in c ring) s new.word
slot_word c ring s new low k z =
    (ap (λ (x : Slot). x.word) (set_at ring.slots s new (no_slot c) low z)
    ∙ updated_of (λ (x : Slot). x.word) (λ j. slice_index_or ring.slots j (no_slot c)) s new z) k

slot_content : (c : Setup) (ring : RingLists) (s : ℕ) (new : Slot) → s < length ring.slots
    → (λ z. (slice_index_or (slice_set ring.slots s new) z (no_slot c)).content) ≡ updated (contents_in c ring) s new.content
slot_content c ring s new low k z =
    (ap (λ (x : Slot). x.content) (set_at ring.slots s new (no_slot c) low z)
    ∙ updated_of (λ (x : Slot). x.content) (λ j. slice_index_or ring.slots j (no_slot c)) s new z) k

-- a ring with another word at a cell is the machine with that word written
pub write_cells : (c : Setup) (rings : List RingLists) (r : ℕ) (p : Cell) (x : ℕ) (y : List ℕ) → r < length rings → IsCell (ring_in c rings r) p
    → cells_of c (slice_set rings r (ring_with (ring_in c rings r) p x y)) ≡ written (cells_of c rings) (location_at r p) x y
write_cells c rings r cell.Tail x y low at =
    let new : RingLists = ring_with (ring_in c rings r) cell.Tail x y in
    same_cells _ _ _ _ _ _ _ _ (field c (λ (q : RingLists). q.tail) rings r new low) (still c (λ (q : RingLists). q.head) rings r new low refl)
    (still c (λ (q : RingLists). q.threshold) rings r new low refl)
    (same_entries _ _ _ _ (still c (words_in c) rings r new low refl) (still c (contents_in c) rings r new low refl))
write_cells c rings r cell.Head x y low at =
    let new : RingLists = ring_with (ring_in c rings r) cell.Head x y in
    same_cells _ _ _ _ _ _ _ _ (still c (λ (q : RingLists). q.tail) rings r new low refl) (field c (λ (q : RingLists). q.head) rings r new low)
    (still c (λ (q : RingLists). q.threshold) rings r new low refl)
    (same_entries _ _ _ _ (still c (words_in c) rings r new low refl) (still c (contents_in c) rings r new low refl))
write_cells c rings r cell.Threshold x y low at =
    let new : RingLists = ring_with (ring_in c rings r) cell.Threshold x y in
    same_cells _ _ _ _ _ _ _ _ (still c (λ (q : RingLists). q.tail) rings r new low refl) (still c (λ (q : RingLists). q.head) rings r new low refl)
    (field c (λ (q : RingLists). q.threshold) rings r new low)
    (same_entries _ _ _ _ (still c (words_in c) rings r new low refl) (still c (contents_in c) rings r new low refl))
write_cells c rings r (cell.Entry slot) x y low at =
    let ring : RingLists = ring_in c rings r in
    let new : RingLists = ring_with ring (cell.Entry slot) x y in
    let word : words_in c new ≡ updated (words_in c ring) slot x = slot_word c ring slot (record { word = x; content = y }) at in
    let content : contents_in c new ≡ updated (contents_in c ring) slot y = slot_content c ring slot (record { word = x; content = y }) at in
    same_cells _ _ _ _ _ _ _ _ (still c (λ (q : RingLists). q.tail) rings r new low refl) (still c (λ (q : RingLists). q.head) rings r new low refl)
    (still c (λ (q : RingLists). q.threshold) rings r new low refl)
    (same_entries _ _ _ _
    (field c (words_in c) rings r new low ∙ ap (λ (f : ℕ → ℕ). updated (λ q. words_in c (ring_in c rings q)) r f) word)
    (field c (contents_in c) rings r new low ∙ ap (λ (f : ℕ → List ℕ). updated (λ q. contents_in c (ring_in c rings q)) r f) content))

found_is : (c : Setup) (rings : List RingLists) (turn : Phase) → read (cells_of c rings) (location_of c turn) ≡ found_by c rings turn
found_is c rings turn = read-cell c rings (ring_of turn) (cell_of c turn)

beside_is : (c : Setup) (rings : List RingLists) (turn : Phase) → beside (cells_of c rings) (location_of c turn) ≡ beside_by c rings turn
beside_is c rings turn = beside-cell c rings (ring_of turn) (cell_of c turn)

-- the cells after a turn
cells_turn : (c : Setup) (rings : List RingLists) (turn : Phase) → HasRings c rings → ring_of turn < c.rings
    → cells_of c (rings_after c rings turn) ≡ cells_after c turn (cells_of c rings)
cells_turn c rings turn has low =
    let at : IsCell (ring_in c rings (ring_of turn)) (cell_of c turn) = is_cell c rings turn has low in
    let within : ring_of turn < length rings = omega (arith, has.0) in
    let x = found_by c rings turn in
    let y = beside_by c rings turn in
    let wrote : cells_of c (rings_after c rings turn) ≡ written (cells_of c rings) (location_of c turn) (writes c turn x) (stores turn x y) =
    write_cells c rings (ring_of turn) (cell_of c turn) (writes c turn x) (stores turn x y) within at in
    wrote ∙ rw (found_is c rings turn, beside_is c rings turn) refl

pub same_machine : (m n : Cells) (p q : ℕ → SeatPart) (o : List (List ℕ)) → m ≡ n → p ≡ q
    → (let b : Machine = record { cells = m; part = p; opening = o } in b) ≡ record { cells = n; part = q; opening = o }
same_machine m n p q o a b = rw (a, b) refl

-- the slots of the rings stay as many
slots_kept : (c : Setup) (ring : RingLists) (p : Cell) (x : ℕ) (y : List ℕ) → length (ring_with ring p x y).slots ≡ length ring.slots
slots_kept c ring cell.Tail x y = refl
slots_kept c ring cell.Head x y = refl
slots_kept c ring cell.Threshold x y = refl
slots_kept c ring (cell.Entry slot) x y = length-set ring.slots slot (record { word = x; content = y })

rings_kept : (c : Setup) (rings : List RingLists) (turn : Phase) → HasRings c rings → ring_of turn < c.rings → HasRings c (rings_after c rings turn)
rings_kept c rings turn has low =
    let within : ring_of turn < length rings = omega (arith, has.0) in (
      length-set rings (ring_of turn) _ ∙ has.0,
      λ r lower. elim (cases_eq r (ring_of turn)) [
        | inl same ↦
            rw (set_at rings (ring_of turn) _ (no_ring c) within r, same, eq-eqb (ring_of turn) (ring_of turn) refl)
            (slots_kept c (ring_in c rings (ring_of turn)) (cell_of c turn) _ _ ∙ has.1 (ring_of turn) low)
        | inr apart ↦ rw (set_at rings (ring_of turn) _ (no_ring c) within r, ne_eqb r (ring_of turn) apart) (has.1 r lower)
      ],
    )

-- a turn of a seat on lists is the machine's step
pub advanced_machine : (b : StateLists) (k : ℕ) (step : Step) (rings : List RingLists) (seat : SeatPart) → HasRings b.setup b.rings → k < length b.seats
    → (a : Advances b.setup step b.rings (part_in b.seats k) rings seat) → ring_of a.turn < b.setup.rings
    → (step_of b.setup (machine_of b) k step ≡ Some (machine_of (record b { rings = rings; seats = slice_set b.seats k seat })))
    × HasRings b.setup rings
advanced_machine b k step rings seat has low a on =
    let c = b.setup in
    let cells : cells_of c rings ≡ cells_after c a.turn (cells_of c b.rings) = ap (cells_of c) a.words ∙ cells_turn c b.rings a.turn has on in
    let part : part_in (slice_set b.seats k seat)
    ≡ updated (part_in b.seats) k
    (after c a.turn (read (cells_of c b.rings) (location_of c a.turn)) (beside (cells_of c b.rings) (location_of c a.turn)) (part_in b.seats k)) =
    set_is b.seats k seat idle_part low
    ∙ ap (updated (part_in b.seats) k) (a.part ∙ rw (found_is c b.rings a.turn, beside_is c b.rings a.turn) refl) in
    let there : machine_of (record b { rings = rings; seats = slice_set b.seats k seat }) ≡ moved c (machine_of b) k a.turn =
    same_machine _ _ _ _ b.opening cells part in
    (rw a.enabled (ap Some (sym there)), rw a.words (rings_kept c b.rings a.turn has on))

-- on every reachable state an enabled turn can be made
pub can_turn : (b : StateLists) (k : ℕ) (step : Step) (turn : Phase) → IsState b → turn_of b.setup (part_in b.seats k) step ≡ Some turn
    → CanTurn b.setup b.rings turn
can_turn b k step turn sound enabled =
    let c = b.setup in
    let m = machine_of b in
    let may = enabled_ready c m k step turn sound.reachable enabled in
    record { ring = may.0; ready = rw (← found_is c b.rings turn) may.1 }

-- so a step keeps a state sound
pub still_sound : (b : StateLists) (k : ℕ) (step : Step) (rings : List RingLists) (seat : SeatPart) → IsState b → k < b.setup.seats
    → (a : Advances b.setup step b.rings (part_in b.seats k) rings seat)
    → IsState (record b { rings = rings; seats = slice_set b.seats k seat })
still_sound b k step rings seat sound low a =
    let within : k < length b.seats = omega (arith, sound.seats) in
    let next = advanced_machine b k step rings seat sound.rings within a (can_turn b k step a.turn sound a.enabled).ring in
    record {
      rings = next.1;
      seats = length-set b.seats k seat ∙ sound.seats;
      reachable = by_step k step sound.reachable low next.0;
    }

-- the seat that was lent is the one of its number
pub seat_lent : (b : StateLists) (k : ℕ) (lent : SeatPart) → IsState b → k < b.setup.seats → lent ≡ slice_index_or b.seats k lent → lent ≡ part_in b.seats k
seat_lent b k lent sound low is =
    let within : k < length b.seats = omega (arith, sound.seats) in is ∙ get_or_default b.seats k lent idle_part within

-- whatever the answer, the state stays sound
pub applied_sound : (b : StateLists) (k : ℕ) (step : Step) (rings : List RingLists) (lent seat : SeatPart) (r : Result (Unit {0}) ApplyFault) → IsState b
    → k < b.setup.seats
    → lent ≡ slice_index_or b.seats k lent → OnOk r (Advances b.setup step b.rings lent rings seat) → OnErr r ((rings ≡ b.rings) × (seat ≡ lent))
    → IsState (record b { rings = rings; seats = slice_set b.seats k seat })
applied_sound b k step rings lent seat (Ok done) sound low is ok err = still_sound b k step rings seat sound low (rw (seat_lent b k lent sound low is) at ok)
applied_sound b k step rings lent seat (Err fault) sound low is ok err =
    rw (err.0, err.1, seat_lent b k lent sound low is, set-get_or b.seats k idle_part) sound

-- and after an Ok it is the step's
pub applied_steps : (b : StateLists) (k : ℕ) (step : Step) (rings : List RingLists) (lent seat : SeatPart) (r : Result (Unit {0}) ApplyFault) → IsState b
    → k < b.setup.seats
    → lent ≡ slice_index_or b.seats k lent → OnOk r (Advances b.setup step b.rings lent rings seat)
    → OnOk r (step_of b.setup (machine_of b) k step ≡ Some (machine_of (record b { rings = rings; seats = slice_set b.seats k seat })))
applied_steps b k step rings lent seat (Ok done) sound low is ok =
    let a : Advances b.setup step b.rings (part_in b.seats k) rings seat = rw (seat_lent b k lent sound low is) at ok in
    let within : k < length b.seats = omega (arith, sound.seats) in
    (advanced_machine b k step rings seat sound.rings within a (can_turn b k step a.turn sound a.enabled).ring).0
applied_steps b k step rings lent seat (Err fault) sound low is ok = tt
