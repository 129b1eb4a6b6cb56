-- How each turn changes the number of indices left in a ring: the exchange that places adds one, the step that takes one
-- away, and no other turn changes which entries have an index.
use Rattle.std.proofs.Common.{◌≡◌, ℕ, ◌+◌, true, false, ◌&&◌, List, refl, ap, sym, ◌∙◌, inl, inr, arith, eq-eqb, ne_eqb}
use Rattle.std.specs.Prelude.{◌==◌, nat_lt, nat_le, if◌then◌else◌}
use Rattle.std.proofs.lemmas.Bool.{cases_Bool, cases_eq}
use Rattle.scq_word.specs.declared.setup.Setup.{Setup}
use Rattle.scq_word.specs.Exports.{packed, mark_of, index_in, safe_in, cycle_in, is_none_in}
use Rattle.scq_word.proofs.TicketLemmas.{slot_of_small}
use Rattle.scq_core.specs.declared.phase.Phase.{Phase}
use Rattle.scq_core.specs.declared.phase.Phase.TheVariants.{Idle, AtE1, AtE2, AtE3, AtE4, AtE5, AtE6, AtD1, AtD2, AtD3, AtD4, AtD5, AtD6, AtD7, AtD8, AtD9, AtD10}
use Rattle.scq_core.specs.Exports.{Cells, read, beside, updated_entry, ring_slots, cycle, slot, zero_level, reset_level, passed, location_of}
use Rattle.scq_core.specs.Exports.{cells_after, Busy, word_at}
use Rattle.scq_core.proofs.UpdatedLemmas.{written_same}
use Rattle.scq_core.proofs.Steady.{either_way}
use Rattle.scq_core.proofs.Entries.{some_slots, below_mark, none_in-marked, none_in-filled, index_below}
use Rattle.scq_law.specs.Exports.{has_index, left_in, sum_to}
use Rattle.scq_law.proofs.Base.Ghosts.{Ghost}
use Rattle.scq_law.proofs.Base.TicketEvents.{TicketEvent, laid, taken, event}
use Rattle.scq_law.proofs.Base.BaseGroup.{Knows}
use Rattle.scq_law.proofs.Balance.Sums.{OneMore, sum_updated}
use Rattle.scq_law.proofs.Threshold.Covering.{bit, here_one, there_none}

-- 1 for an event that places an index on this ring, and for one that takes one from it
abbrev pub laid_bit : ℕ → TicketEvent → ℕ
laid_bit r (laid q i w t) = bit q r
laid_bit r e = 0

abbrev pub got_bit : ℕ → TicketEvent → ℕ
got_bit r (taken q h i w) = bit q r
got_bit r e = 0

-- the number of indices of a ring before and after an event
abbrev Shifts : ℕ → TicketEvent → ℕ → ℕ → Type 0
Shifts r e before later = later + got_bit r e ≡ before + laid_bit r e

-- before and after a turn
abbrev pub LeftBy : Setup → Cells → ℕ → Phase → Type 0
LeftBy c m r turn =
    Shifts r (event c turn (read m (location_of c turn)) (beside m (location_of c turn))) (left_in c m r) (left_in c (cells_after c turn m) r)

-- a word with and without an index
has_one : (c : Setup) (w : ℕ) → is_none_in (ring_slots c) w ≡ false → has_index c w ≡ 1
has_one c w some = rw some refl

has_none : (c : Setup) (w : ℕ) → is_none_in (ring_slots c) w ≡ true → has_index c w ≡ 0
has_none c w none = rw none refl

-- an entry that has an index, or has none, as it was
still : (q r before later was is : ℕ) → is ≡ was → OneMore q r before later was is → later ≡ before
still q r before later was is same one = elim one.moves [ inl a ↦ let e = a.1 in omega arith | inr a ↦ a.1 ]

-- one that gets an index
more : (q r before later was is : ℕ) → was ≡ 0 → is ≡ 1 → OneMore q r before later was is → later ≡ before + bit q r
more q r before later was is low high one =
    elim one.moves [
      | inl a ↦ let e = a.1 in let here = here_one q r a.0 in omega arith
      | inr a ↦ let e = a.1 in let there = there_none q r a.0 in omega arith
    ]

-- one that loses it
less : (q r before later was is : ℕ) → was ≡ 1 → is ≡ 0 → OneMore q r before later was is → later + bit q r ≡ before
less q r before later was is high low one =
    elim one.moves [
      | inl a ↦ let e = a.1 in let here = here_one q r a.0 in omega arith
      | inr a ↦ let e = a.1 in let there = there_none q r a.0 in omega arith
    ]

-- what a dequeue leaves of an entry that it passes has an index where there was one
passed_index : (c : Setup) (h e : ℕ) → has_index c (passed c h e) ≡ has_index c e
passed_index c h e =
    elim (cases_Bool (is_none_in (ring_slots c) e)) [
      | inl none ↦ rw (none, none_in-marked (ring_slots c) (cycle c h) (safe_in (ring_slots c) e) (some_slots c)) refl
      | inr some ↦
          let low = index_below (ring_slots c) e (some_slots c) some in
          rw (some, none_in-filled (ring_slots c) (cycle_in (ring_slots c) e) 0 (index_in (ring_slots c) e) low) refl
    ]

module _ (c : Setup) (m : Cells) (g : Ghost) (hand : List ℕ) (r : ℕ) where
  -- an entry of a ticket's slot that gets another word
  entry_moves : (q t x : ℕ)
      → OneMore q r (left_in c m r) (sum_to (λ s. has_index c (updated_entry m.entries.word q (slot c t) x r s)) (ring_slots c))
      (has_index c (word_at c m q t)) (has_index c x)
  entry_moves q t x =
      sum_updated (has_index c) m.entries.word q (slot c t) x r (ring_slots c) (slot_of_small c.order t)

  abbrev left : ℕ
  left = left_in c m r

  -- a turn that writes what it found
  only_reads : (turn : Phase) (e : TicketEvent) → cells_after c turn m ≡ m → Shifts r e left left → Shifts r e left (left_in c (cells_after c turn m) r)
  only_reads turn e same moves = rw same moves

  -- an event that takes nothing, and places so much
  adds : (e : TicketEvent) (before later much : ℕ) → got_bit r e ≡ 0 → laid_bit r e ≡ much → later ≡ before + much → Shifts r e before later
  adds e before later much none some sum = omega arith

  -- an exchange that places, or that fails
  places : (q i : ℕ) (w : List ℕ) (t e : ℕ) → Busy c m hand (AtE4 q i w t e) → LeftBy c m r (AtE4 q i w t e)
  places q i w t e busy =
      let x = word_at c m q t in
      let moves = entry_moves q t (if x == e then packed (ring_slots c) (cycle c t) 1 i else x) in
      elim (cases_eq x e) [
        | inl hit ↦
            let none : is_none_in (ring_slots c) x ≡ true = rw hit busy.3 in
            let low = below_mark c i busy.0.index in
            let test = eq-eqb x e hit in
            adds _ left _ (bit q r) (rw test refl) (rw test refl)
            (more q r left _ _ _ (has_none c x none) (rw test (has_one c _ (none_in-filled (ring_slots c) (cycle c t) 1 i low))) moves)
        | inr miss ↦
            let test = ne_eqb x e miss in
            let keeps = still q r left _ _ _ (rw test refl) moves in
            adds _ left _ 0 (rw test refl) (rw test refl) (omega arith)
      ]

  -- a dequeue that takes
  takes : (q h : ℕ) → is_none_in (ring_slots c) (word_at c m q h) ≡ false → LeftBy c m r (AtD4 q h)
  takes q h some =
      let x = word_at c m q h in
      let moves = entry_moves q h (packed (ring_slots c) (cycle_in (ring_slots c) x) (safe_in (ring_slots c) x) (mark_of (ring_slots c))) in
      let gone = less q r left _ _ _ (has_one c x some)
      (has_none c _ (none_in-marked (ring_slots c) (cycle_in (ring_slots c) x) (safe_in (ring_slots c) x) (some_slots c))) moves in
      omega arith

  -- an exchange that passes an entry, or that fails
  passes : (q h e : ℕ) → LeftBy c m r (AtD5 q h e)
  passes q h e =
      let x = word_at c m q h in
      let moves = entry_moves q h (if x == e then passed c h e else x) in
      elim (cases_eq x e) [
        | inl hit ↦
            let test = eq-eqb x e hit in
            let keeps = still q r left _ _ _ (rw test (passed_index c h e ∙ ap (has_index c) (sym hit))) moves in
            adds _ left _ 0 (rw test refl) (rw test refl) (omega arith)
        | inr miss ↦
            let test = ne_eqb x e miss in
            let keeps = still q r left _ _ _ (rw test refl) moves in
            adds _ left _ 0 (rw test refl) (rw test refl) (omega arith)
      ]

  -- one of two events that place and take nothing
  abbrev Calm : TicketEvent → Type 0
  Calm e = Shifts r e left left

  pub left_turn : (turn : Phase) → Busy c m hand turn → Knows c m.entries.word g.gets turn → LeftBy c m r turn
  left_turn Idle busy knows = refl
  left_turn (AtE1 q i w l) busy knows = either_way Calm (nat_le c.limit (m.tail q)) _ _ refl refl
  left_turn (AtE2 q i w t l) busy knows =
      only_reads (AtE2 q i w t l) _ (written_same m (location_of c (AtE2 q i w t l)))
      (either_way Calm (nat_lt (cycle_in (ring_slots c) (word_at c m q t)) (cycle c t) && is_none_in (ring_slots c) (word_at c m q t)) _ _ refl refl)
  left_turn (AtE3 q i w t e) busy knows = either_way Calm (nat_le (m.head q) t) _ _ refl refl
  left_turn (AtE4 q i w t e) busy knows = places q i w t e busy
  left_turn (AtE5 q i w t) busy knows = either_way Calm (m.threshold q == reset_level c) _ _ refl refl
  left_turn (AtE6 q i w t) busy knows = refl
  left_turn (AtD1 q) busy knows = either_way Calm (nat_lt (m.threshold q) zero_level) _ _ refl refl
  left_turn (AtD2 q l) busy knows = either_way Calm (nat_le c.limit (m.head q)) _ _ refl refl
  left_turn (AtD3 q h l) busy knows =
      only_reads (AtD3 q h l) _ (written_same m (location_of c (AtD3 q h l)))
      (either_way Calm (cycle_in (ring_slots c) (word_at c m q h) == cycle c h) _ _ refl
      (either_way Calm (nat_lt (cycle_in (ring_slots c) (word_at c m q h)) (cycle c h)) _ _ refl refl))
  left_turn (AtD4 q h) busy knows = takes q h knows.index
  left_turn (AtD5 q h e) busy knows = passes q h e
  left_turn (AtD6 q h) busy knows = either_way Calm (nat_le (m.tail q) (h + 1)) _ _ refl refl
  left_turn (AtD7 q h from to) busy knows = either_way Calm (m.tail q == from) _ _ refl refl
  left_turn (AtD8 q h from) busy knows = refl
  left_turn (AtD9 q h from to) busy knows = refl
  left_turn (AtD10 q h true) busy knows = refl
  left_turn (AtD10 q h false) busy knows = either_way Calm (nat_le (m.threshold q) zero_level) _ _ refl refl
