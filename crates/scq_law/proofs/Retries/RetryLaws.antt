-- Each new try of a call stands higher than the one before. Plan: what a turn finds is read off what its seat has; where a
-- turn leads is read off the table.
use Rattle.std.proofs.Common.{◌≡◌, ℕ, ◌+◌, ◌*◌, ◌<◌, ◌≤◌, true, false, ◌&&◌, List, refl, inl, inr, arith, eq-eqb, ne_eqb, ltb-true}
use Rattle.std.specs.Prelude.{◌==◌, nat_lt, nat_le}
use Rattle.std.proofs.lemmas.Bool.{cases_Bool, cases_eq, and_parts, leb-false}
use Rattle.scq_word.specs.declared.setup.Setup.{Setup}
use Rattle.scq_word.specs.Exports.{safe_in, cycle_in, is_none_in, rank_in}
use Rattle.scq_word.proofs.WordLemmas.{rank_in_range}
use Rattle.scq_core.specs.declared.phase.Phase.{Phase}
use Rattle.scq_core.specs.declared.phase.Phase.TheVariants.{Idle, AtE1, AtE2, AtE3, AtE4, AtE5, AtE6, AtD1, AtD2, AtD3, AtD4, AtD5, AtD6, AtD7, AtD8, AtD9, AtD10}
use Rattle.scq_core.specs.Exports.{Cells, SeatPart, read, beside, ring_slots, cycle, zero_level, location_of, after, IsReachable, IsAbove, Busy}
use Rattle.scq_core.specs.Exports.{word_at}
use Rattle.scq_core.specs.Machine.{Machine}
use Rattle.scq_core.proofs.Steady.{has, steady}
use Rattle.scq_core.proofs.Limits.{counters_bounded}
use Rattle.scq_law.specs.Exports.{FindsAtLeast, Rises, RetriesRise}

-- what a turn finds is what its seat has of it
finds_turn : (c : Setup) (m : Cells) (hand : List ℕ) (turn : Phase) → Busy c m hand turn → FindsAtLeast c turn (read m (location_of c turn))
finds_turn c m hand (AtE1 r i w l) busy = busy.1
finds_turn c m hand (AtE2 r i w t l) busy = busy.2
finds_turn c m hand (AtE4 r i w t e) busy = busy.2.above
finds_turn c m hand (AtD2 r l) busy = busy.1
finds_turn c m hand (AtD3 r h l) busy = busy.2
finds_turn c m hand (AtD5 r h e) busy = busy.2.above
finds_turn c m hand (AtD7 r h from to) busy = busy.2.was_tail
finds_turn c m hand (AtD9 r h from to) busy = busy.2
finds_turn c m hand turn busy = tt

-- a word of an earlier cycle has a rank below the ticket's
pub earlier_rank : (m x t : ℕ) → cycle_in m x < t → rank_in m x < 3 * t
earlier_rank m x t earlier = let range = rank_in_range m x in let high = range.1 in omega arith

-- the word that an exchange found in place of the one that was loaded
pub risen : (m e x : ℕ) → IsAbove m e x → (x ≡ e → ⊥) → rank_in m e < rank_in m x
risen m e x up miss = elim up.above [ inl same ↦ absurd (miss same) | inr rose ↦ rose ]

module _ (c : Setup) (m : Cells) (p : SeatPart) (bound : (r : ℕ) → m.tail r ≤ c.limit + c.seats) where
  abbrev RisesBy : Phase → Type 0
  RisesBy turn = Rises c turn (after c turn (read m (location_of c turn)) (beside m (location_of c turn)) p).phase

  rises_turn : (turn : Phase) → Busy c m p.hand turn → RisesBy turn
  rises_turn Idle busy = tt
  rises_turn (AtE1 r i w l) busy =
      elim (cases_Bool (nat_le c.limit (m.tail r))) [
        | inl past ↦ rw past tt
        | inr under ↦ rw under (busy.1, leb-false c.limit (m.tail r) under)
      ]
  rises_turn (AtE2 r i w t l) busy =
      let x = word_at c m r t in
      elim (cases_Bool (nat_lt (cycle_in (ring_slots c) x) (cycle c t) && is_none_in (ring_slots c) x)) [
        | inl fits ↦
            let both = and_parts (nat_lt (cycle_in (ring_slots c) x) (cycle c t)) (is_none_in (ring_slots c) x) fits in
            let low = earlier_rank (ring_slots c) x (cycle c t) (ltb-true _ _ both.0) in
            elim (cases_Bool (safe_in (ring_slots c) x == 1)) [
              | inl safe ↦ rw (fits, safe) (refl, busy.2, low)
              | inr unsafe ↦ rw (fits, unsafe) (refl, busy.2, low)
            ]
        | inr fails ↦ rw fails (omega arith)
      ]
  rises_turn (AtE3 r i w t e) busy =
      elim (cases_Bool (nat_le (m.head r) t)) [ inl low ↦ rw low (refl, refl) | inr fails ↦ rw fails (omega arith) ]
  rises_turn (AtE4 r i w t e) busy =
      let x = word_at c m r t in
      elim (cases_eq x e) [
        | inl hit ↦ rw (eq-eqb x e hit) tt
        | inr miss ↦ rw (ne_eqb x e miss) (refl, risen (ring_slots c) e x busy.2.above miss)
      ]
  rises_turn (AtE5 r i w t) busy = tt
  rises_turn (AtE6 r i w t) busy = tt
  rises_turn (AtD1 r) busy = tt
  rises_turn (AtD2 r l) busy =
      elim (cases_Bool (nat_le c.limit (m.head r))) [
        | inl past ↦ rw past tt
        | inr under ↦ rw under (busy.1, leb-false c.limit (m.head r) under)
      ]
  rises_turn (AtD3 r h l) busy =
      let x = word_at c m r h in
      elim (cases_Bool (cycle_in (ring_slots c) x == cycle c h)) [
        | inl same ↦ rw same tt
        | inr other ↦
            elim (cases_Bool (nat_lt (cycle_in (ring_slots c) x) (cycle c h))) [
              | inl lower ↦
                  rw (other, lower) (refl, busy.2, earlier_rank (ring_slots c) x (cycle c h) (ltb-true _ _ lower))
              | inr higher ↦ rw (other, higher) tt
            ]
      ]
  rises_turn (AtD4 r h) busy = tt
  rises_turn (AtD5 r h e) busy =
      let x = word_at c m r h in
      elim (cases_eq x e) [
        | inl hit ↦ rw (eq-eqb x e hit) tt
        | inr miss ↦ rw (ne_eqb x e miss) (refl, risen (ring_slots c) e x busy.2.above miss)
      ]
  rises_turn (AtD6 r h) busy = tt
  rises_turn (AtD7 r h from to) busy =
      elim (cases_Bool (m.tail r == from)) [ inl hit ↦ rw hit tt | inr miss ↦ rw miss refl ]
  rises_turn (AtD8 r h from) busy = refl
  rises_turn (AtD9 r h from to) busy =
      elim (cases_Bool (nat_le to (m.tail r))) [ inl caught ↦ rw caught tt | inr under ↦ rw under (busy.2, bound r) ]
  rises_turn (AtD10 r h true) busy = tt
  rises_turn (AtD10 r h false) busy =
      elim (cases_Bool (nat_le (m.threshold r) zero_level)) [ inl low ↦ rw low tt | inr high ↦ rw high (omega arith) ]

pub retries_rise : (c : Setup) (m : Machine) → IsReachable c m → RetriesRise c m
retries_rise c m reach =
    let all = steady c m reach in
    let bounds = counters_bounded c m reach in
    record {
      finds =
          λ k s turn enabled.
          finds_turn c m.cells (m.part k).hand turn (has c m.cells (m.part k) s turn (all.busy k) enabled);
      rises =
          λ k s turn enabled.
          rises_turn c m.cells (m.part k)
          (λ r. let few = bounds.spent in let tail = bounds.tail r in omega arith)
          turn
          (has c m.cells (m.part k) s turn (all.busy k) enabled);
    }
