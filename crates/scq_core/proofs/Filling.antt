-- One more index of the full start, and the start's lists as the machine's start.
use Rattle.std.proofs.Common.{◌≡◌, ℕ, zero, suc, ◌+◌, ◌<◌, refl, sym, ◌∙◌, inl, inr, arith, List, [], ◌∷◌, length, eq-eqb, ne_eqb, add-one, subst, Bool, true, false}
use Rattle.std.specs.Prelude.{◌-◌, slice_index_or, slice_set, replicate, ◌==◌, if◌then◌else◌}
use Rattle.std.proofs.lemmas.List.{length-set, get_or-set_same, get_or-set_other, get_or_default, length-replicate, get_or-replicate}
use Rattle.std.proofs.lemmas.Bool.{cases_eq}
use Rattle.scq_word.specs.declared.setup.Setup.{Setup}
use Rattle.scq_word.specs.Exports.{n_of, packed}
use Rattle.scq_word.proofs.TicketLemmas.{slot_of_small}
use Rattle.scq_core.specs.declared.slot.Slot.{Slot}
use Rattle.scq_core.specs.Exports.{SeatPart, ring_slots, zero_level, reset_level, slot, unused, filled, filled_contents, start_cells, idle_part}
use Rattle.scq_core.specs.Exports.{start_of, RingLists, no_slot, no_ring, ring_in, cells_of, part_in, machine_of, HasRings, IsState, empty_ring}
use Rattle.scq_core.specs.Exports.{SlotsAreFilled, IsFullRing, IsStart, IsReachable, at_start}
use Rattle.scq_core.specs.Machine.{Machine}
use Rattle.scq_core.proofs.ListedTurns.{same_cells, same_entries, same_machine}

more_word : (c : Setup) (count : ℕ) (slots : List Slot) (new : Slot) → length slots ≡ ring_slots c → new.word ≡ packed (ring_slots c) 1 1 count
    → ((s : ℕ) → (slice_index_or slots s (no_slot c)).word ≡ filled c count s) → (s : ℕ)
    → (slice_index_or (slice_set slots (slot c (ring_slots c + count)) new) s (no_slot c)).word ≡ filled c (suc count) s
more_word c count slots new many is old s =
    let at = slot c (ring_slots c + count) in
    let low : at < length slots = rw many (slot_of_small c.order (ring_slots c + count)) in
    elim (cases_eq s at) [
      | inl same ↦ rw (same, get_or-set_same slots at new (no_slot c) low, eq-eqb at at refl) is
      | inr apart ↦ rw (get_or-set_other slots at s new (no_slot c) apart, ne_eqb s at apart) (old s)
    ]

more_content : (c : Setup) (opening : List (List ℕ)) (count : ℕ) (slots : List Slot) (new : Slot) → length slots ≡ ring_slots c
    → new.content ≡ slice_index_or opening count []
    → ((s : ℕ) → (slice_index_or slots s (no_slot c)).content ≡ filled_contents c opening count s) → (s : ℕ)
    → (slice_index_or (slice_set slots (slot c (ring_slots c + count)) new) s (no_slot c)).content ≡ filled_contents c opening (suc count) s
more_content c opening count slots new many is old s =
    let at = slot c (ring_slots c + count) in
    let low : at < length slots = rw many (slot_of_small c.order (ring_slots c + count)) in
    elim (cases_eq s at) [
      | inl same ↦ rw (same, get_or-set_same slots at new (no_slot c) low, eq-eqb at at refl) is
      | inr apart ↦ rw (get_or-set_other slots at s new (no_slot c) apart, ne_eqb s at apart) (old s)
    ]

-- one more index was placed
pub filled_more : (c : Setup) (opening : List (List ℕ)) (count : ℕ) (slots later : List Slot) (copy item : List ℕ) → SlotsAreFilled c opening count slots
    → count < length opening → copy ≡ item → item ≡ slice_index_or opening count item
    → later ≡ slice_set slots (slot c (ring_slots c + count)) (record { word = packed (ring_slots c) 1 1 count; content = copy })
    → SlotsAreFilled c opening (count + 1) later
filled_more c opening count slots later copy item was low copied is changed =
    let content : copy ≡ slice_index_or opening count [] = copied ∙ is ∙ get_or_default opening count item [] low in
    let new : Slot = record { word = packed (ring_slots c) 1 1 count; content = copy } in
    rw (add-one, changed) (record {
      many = length-set slots (slot c (ring_slots c + count)) new ∙ was.many;
      words = more_word c count slots new was.many refl was.words;
      contents = more_content c opening count slots new was.many content was.contents;
    })

-- what holds of the element and of the default holds of each read of copies of it
pub replicate_read : {A : Type 0} → (P : A → Type 0) (n : ℕ) (x d : A) → P x → P d → (i : ℕ) → P (slice_index_or (replicate n x) i d)
replicate_read P zero x d holds past i = past
replicate_read P (suc n) x d holds past zero = holds
replicate_read P (suc n) x d holds past (suc i) = replicate_read P n x d holds past i

-- what is read off the rings of the start
either_same : {A : Type 0} → (b : Bool) (x : A) → (if b then x else x) ≡ x
either_same true x = refl
either_same false x = refl

slots_many : (c : Setup) (opening : List (List ℕ)) (full : RingLists) (more : ℕ) → IsFullRing c opening full → more + 1 ≡ c.rings
    → (r : ℕ) → r < c.rings → length (ring_in c (full ∷ replicate more (empty_ring c)) r).slots ≡ ring_slots c
slots_many c opening full more is many zero low = is.slots.many
slots_many c opening full more is many (suc r) low =
    rw (get_or-replicate more r (empty_ring c) (no_ring c) (omega arith)) (length-replicate (ring_slots c) (no_slot c))

first_or : {A : Type 0} → (c : Setup) (f : RingLists → A) (full : RingLists) (more : ℕ) (a b : A) → f full ≡ a → f (empty_ring c) ≡ b → f (no_ring c) ≡ b
    → (r : ℕ) → f (ring_in c (full ∷ replicate more (empty_ring c)) r) ≡ (if r == 0 then a else b)
first_or c f full more a b first other past zero = first
first_or c f full more a b first other past (suc r) =
    rw (ne_eqb (suc r) 0 (λ e. absurd (omega arith))) (replicate_read (λ (ring : RingLists). f ring ≡ b) more (empty_ring c) (no_ring c) other past r)

words_or : (c : Setup) (opening : List (List ℕ)) (full : RingLists) (more : ℕ) → IsFullRing c opening full → (r s : ℕ)
    → (slice_index_or (ring_in c (full ∷ replicate more (empty_ring c)) r).slots s (no_slot c)).word
    ≡ (if r == 0 then filled c (n_of c.order) s else unused (ring_slots c))
words_or c opening full more is r s =
    first_or c (λ (ring : RingLists). (slice_index_or ring.slots s (no_slot c)).word) full more (filled c (n_of c.order) s) (unused (ring_slots c))
    (is.slots.words s)
    (replicate_read (λ (slot : Slot). slot.word ≡ unused (ring_slots c)) (ring_slots c) (no_slot c) (no_slot c) refl refl s) refl r

contents_or : (c : Setup) (opening : List (List ℕ)) (full : RingLists) (more : ℕ) → IsFullRing c opening full → (r s : ℕ)
    → (slice_index_or (ring_in c (full ∷ replicate more (empty_ring c)) r).slots s (no_slot c)).content
    ≡ (if r == 0 then filled_contents c opening (n_of c.order) s else [])
contents_or c opening full more is r s =
    first_or c (λ (ring : RingLists). (slice_index_or ring.slots s (no_slot c)).content) full more (filled_contents c opening (n_of c.order) s) []
    (is.slots.contents s)
    (replicate_read (λ (slot : Slot). slot.content ≡ []) (ring_slots c) (no_slot c) (no_slot c) refl refl s) refl r

-- the cells of the start
pub start_cells_are : (c : Setup) (opening : List (List ℕ)) (full : RingLists) (more : ℕ) → IsFullRing c opening full
    → cells_of c (full ∷ replicate more (empty_ring c)) ≡ start_cells c opening
start_cells_are c opening full more is =
    same_cells _ _ _ _ _ _ _ _
    (λ k r. first_or c (λ (ring : RingLists). ring.tail) full more (ring_slots c + n_of c.order) (ring_slots c) is.tail refl refl r k)
    (λ k r. (first_or c (λ (ring : RingLists). ring.head) full more (ring_slots c) (ring_slots c) is.head refl refl r ∙ either_same (r == 0) (ring_slots c)) k)
    (λ k r. first_or c (λ (ring : RingLists). ring.threshold) full more (reset_level c) (zero_level - 1) is.threshold refl refl r k)
    (same_entries _ _ _ _ (λ k r s. words_or c opening full more is r s k) (λ k r s. contents_or c opening full more is r s k))

-- each ring of the start has its slots
pub start_rings : (c : Setup) (opening : List (List ℕ)) (full : RingLists) (more : ℕ) → IsFullRing c opening full → more + 1 ≡ c.rings
    → HasRings c (full ∷ replicate more (empty_ring c))
start_rings c opening full more is many = (
  (let copies : length (replicate more (empty_ring c)) ≡ more = length-replicate more (empty_ring c) in omega arith),
  slots_many c opening full more is many,
)

pub start_machine : (c : Setup) (opening : List (List ℕ)) (full : RingLists) (more seats : ℕ) → IsFullRing c opening full
    → (let m : Machine = record { cells = cells_of c (full ∷ replicate more (empty_ring c)); part = part_in (replicate seats idle_part); opening = opening } in
    m)
    ≡ start_of c opening
start_machine c opening full more seats is =
    same_machine _ _ _ _ opening (start_cells_are c opening full more is)
    (λ k j. replicate_read (λ (p : SeatPart). p ≡ idle_part) seats idle_part idle_part refl refl j k)

-- the state that was made is the start
pub started_machine : (c : Setup) (opening : List (List ℕ)) (rings : List RingLists) (seats : List SeatPart) → IsStart c opening (c.rings - 1) rings
    → seats ≡ replicate c.seats idle_part → machine_of (record { setup = c; rings = rings; seats = seats; opening = opening }) ≡ start_of c opening
started_machine c opening rings seats is idle = rw (is.all, idle) (start_machine c opening is.first (c.rings - 1) c.seats is.full)

pub started_sound : (c : Setup) (opening : List (List ℕ)) (rings : List RingLists) (seats : List SeatPart) → IsStart c opening (c.rings - 1) rings
    → seats ≡ replicate c.seats idle_part → length opening ≡ n_of c.order → IsState (record { setup = c; rings = rings; seats = seats; opening = opening })
started_sound c opening rings seats is idle full =
    let some = c.rings_in_range in
    let many : c.rings - 1 + 1 ≡ c.rings = omega arith in
    let reach : IsReachable c (start_of c opening) = at_start opening full in
    record {
      rings = rw is.all (start_rings c opening is.first (c.rings - 1) is.full many);
      seats = rw idle (length-replicate c.seats idle_part);
      reachable = subst (λ (m : Machine). IsReachable c m) (sym (started_machine c opening rings seats is idle)) reach;
    }
