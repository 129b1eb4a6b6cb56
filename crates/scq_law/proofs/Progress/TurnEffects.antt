-- What a turn that ends no call does to its own ring. Plan: by turns; Head rises only by a draw,
-- Threshold only falls, and an entry changes only where its seat or Threshold counts less from then
-- on.
use Rattle.std.proofs.Common.{◌≡◌, ℕ, ◌+◌, ◌-◌, ◌≤◌, ◌⊎◌, true, false, ◌&&◌, List, refl, ap, inl, inr, arith}
use Rattle.std.specs.Prelude.{◌==◌, nat_lt, nat_le}
use Rattle.std.proofs.lemmas.Bool.{cases_Bool, leb-false}
use Rattle.scq_word.specs.declared.setup.Setup.{Setup}
use Rattle.scq_word.specs.Exports.{safe_in, cycle_in, is_none_in}
use Rattle.scq_core.specs.declared.phase.Phase.{Phase}
use Rattle.scq_core.specs.declared.phase.Phase.TheVariants.{Idle, AtE1, AtE2, AtE3, AtE4, AtE5, AtE6, AtD1, AtD2, AtD3, AtD4, AtD5, AtD6, AtD7, AtD8, AtD9, AtD10}
use Rattle.scq_core.specs.Exports.{Cells, SeatPart, read, beside, updated_entry, ring_slots, cycle, slot, zero_level, reset_level, ring_of}
use Rattle.scq_core.specs.Exports.{location_of, after, cells_after, word_at}
use Rattle.scq_core.proofs.UpdatedLemmas.{updated_here, updated_entry_same}
use Rattle.scq_core.proofs.Steady.{either_way}
use Rattle.scq_law.proofs.Progress.Potential.{spare_at}
use Rattle.scq_law.proofs.Progress.SeatCounts.{own_draw, own_change}

-- a part after a turn: its call has ended, or is on the turn's ring
module _ (c : Setup) (x : ℕ) (y : List ℕ) (p : SeatPart) where
  abbrev OnRing : ℕ → SeatPart → Type 0
  OnRing r v = (v.phase ≡ Idle → ⊥) → ring_of v.phase ≡ r

  pub ring_after : (turn : Phase) → (turn ≡ Idle → ⊥) → OnRing (ring_of turn) (after c turn x y p)
  ring_after Idle awake = absurd (awake refl)
  ring_after (AtE1 r i w l) awake =
      either_way (OnRing r) (nat_le c.limit x) _ _ (λ goes. absurd (goes refl)) (λ goes. refl)
  ring_after (AtE2 r i w t l) awake =
      either_way (OnRing r) (nat_lt (cycle_in (ring_slots c) x) (cycle c t) && is_none_in
      (ring_slots c) x) _ _
      (either_way (OnRing r) (safe_in (ring_slots c) x == 1) _ _ (λ goes. refl) (λ goes. refl))
      (λ goes. refl)
  ring_after (AtE3 r i w t e) awake =
      either_way (OnRing r) (nat_le x t) _ _ (λ goes. refl) (λ goes. refl)
  ring_after (AtE4 r i w t e) awake =
      either_way (OnRing r) (x == e) _ _ (λ goes. refl) (λ goes. refl)
  ring_after (AtE5 r i w t) awake =
      either_way (OnRing r) (x == reset_level c) _ _ (λ goes. absurd (goes refl)) (λ goes. refl)
  ring_after (AtE6 r i w t) awake = λ goes. absurd (goes refl)
  ring_after (AtD1 r) awake =
      either_way (OnRing r) (nat_lt x zero_level) _ _ (λ goes. absurd (goes refl)) (λ goes. refl)
  ring_after (AtD2 r l) awake =
      either_way (OnRing r) (nat_le c.limit x) _ _ (λ goes. absurd (goes refl)) (λ goes. refl)
  ring_after (AtD3 r h l) awake =
      either_way (OnRing r) (cycle_in (ring_slots c) x == cycle c h) _ _
      (λ goes. refl)
      (either_way (OnRing r) (nat_lt (cycle_in (ring_slots c) x) (cycle c h)) _ _ (λ goes. refl)
      (λ goes. refl))
  ring_after (AtD4 r h) awake = λ goes. absurd (goes refl)
  ring_after (AtD5 r h e) awake = either_way (OnRing r) (x == e) _ _ (λ goes. refl) (λ goes. refl)
  ring_after (AtD6 r h) awake =
      either_way (OnRing r) (nat_le x (h + 1)) _ _ (λ goes. refl) (λ goes. refl)
  ring_after (AtD7 r h from to) awake =
      either_way (OnRing r) (x == from) _ _ (λ goes. refl) (λ goes. refl)
  ring_after (AtD8 r h from) awake = λ goes. refl
  ring_after (AtD9 r h from to) awake =
      either_way (OnRing r) (nat_le to x) _ _ (λ goes. refl) (λ goes. refl)
  ring_after (AtD10 r h true) awake = λ goes. absurd (goes refl)
  ring_after (AtD10 r h false) awake =
      either_way (OnRing r) (nat_le x zero_level) _ _ (λ goes. absurd (goes refl)) (λ goes. refl)

-- what a turn does to its ring, by what its seat counts before and after: Head and Threshold; and
-- an entry changes, for which the seat or Threshold counts less, or none does
pub record Effect (m n : Cells) (r draw draw' change change' : ℕ) : Type 0 where
  pub ends : n.head r + spare_at n r + draw' ≤ m.head r + spare_at m r + draw
  pub level : spare_at n r ≤ spare_at m r
  pub entries : (((s : ℕ) → n.entries.word r s ≡ m.entries.word r s)
      × (spare_at n r + change' ≤ spare_at m r + change))
      ⊎ (spare_at n r + change' + 1 ≤ spare_at m r + change)

-- no entry changes, and none of the rest counts more
pub quiet : {m n : Cells} {r draw draw' change change' : ℕ} → ((s : ℕ) → n.entries.word r s ≡ m.entries.word r s)
    → n.head r + spare_at n r + draw' ≤ m.head r + spare_at m r + draw → spare_at n r ≤ spare_at m r
    → spare_at n r + change' ≤ spare_at m r + change → Effect m n r draw draw' change change'
quiet same ends level less = record { ends = ends; level = level; entries = inl (same, less) }

-- an entry that is only read
same_entry : (f : ℕ → ℕ → ℕ) (r s z : ℕ) → updated_entry f r s (f r s) r z ≡ f r z
same_entry f r s z = ap (λ (g : ℕ → ℕ → ℕ). g r z) (updated_entry_same f r s)

module _ (c : Setup) (m : Cells) (p : SeatPart) where
  abbrev pub EffectBy : Phase → Type 0
  EffectBy turn =
      ((after c turn (read m (location_of c turn)) (beside m (location_of c turn)) p).phase ≡ Idle
      → ⊥)
      → Effect m (cells_after c turn m) (ring_of turn) (own_draw turn)
      (own_draw (after c turn (read m (location_of c turn)) (beside m (location_of c turn))
      p).phase)
      (own_change turn) (own_change
      (after c turn (read m (location_of c turn)) (beside m (location_of c turn)) p).phase)

  pub effect_turn : (turn : Phase) → (turn ≡ Idle → ⊥) → EffectBy turn
  effect_turn Idle awake = absurd (awake refl)
  effect_turn (AtE1 r i w l) awake =
      elim (cases_Bool (nat_le c.limit (m.tail r))) [
        | inl past ↦ rw past (λ goes. absurd (goes refl))
        | inr under ↦ rw under (λ goes. quiet (λ s. refl) (omega arith) (omega arith) (omega arith))
      ]
  effect_turn (AtE2 r i w t l) awake =
      let x = word_at c m r t in
      elim (cases_Bool (nat_lt (cycle_in (ring_slots c) x) (cycle c t) && is_none_in (ring_slots c)
      x)) [
        | inl fits ↦
            elim (cases_Bool (safe_in (ring_slots c) x == 1)) [
              | inl safe ↦ rw (fits, safe) (λ goes. quiet (same_entry m.entries.word r (slot c t)) (omega arith) (omega arith) (omega arith))
              | inr unsafe ↦ rw (fits, unsafe) (λ goes. quiet (same_entry m.entries.word r (slot c t)) (omega arith) (omega arith) (omega arith))
            ]
        | inr fails ↦
            rw fails (λ goes. quiet (same_entry m.entries.word r (slot c t)) (omega arith) (omega arith) (omega arith))
      ]
  effect_turn (AtE3 r i w t e) awake =
      let same = updated_here m.head r (m.head r) in
      elim (cases_Bool (nat_le (m.head r) t)) [
        | inl low ↦ rw low (λ goes. quiet (λ s. refl) (omega arith) (omega arith) (omega arith))
        | inr fails ↦ rw fails (λ goes. quiet (λ s. refl) (omega arith) (omega arith) (omega arith))
      ]
  effect_turn (AtE4 r i w t e) awake =
      elim (cases_Bool (word_at c m r t == e)) [
        | inl hit ↦ rw hit (λ goes.
            record { ends = omega arith; level = omega arith; entries = inr (omega arith) })
        | inr miss ↦
            rw miss (λ goes. quiet (same_entry m.entries.word r (slot c t)) (omega arith) (omega arith) (omega arith))
      ]
  effect_turn (AtE5 r i w t) awake =
      let same = updated_here m.threshold r (m.threshold r) in
      elim (cases_Bool (m.threshold r == reset_level c)) [
        | inl high ↦ rw high (λ goes. absurd (goes refl))
        | inr low ↦ rw low (λ goes. quiet (λ s. refl) (omega arith) (omega arith) (omega arith))
      ]
  effect_turn (AtE6 r i w t) awake = λ goes. absurd (goes refl)
  effect_turn (AtD1 r) awake =
      let same = updated_here m.threshold r (m.threshold r) in
      elim (cases_Bool (nat_lt (m.threshold r) zero_level)) [
        | inl low ↦ rw low (λ goes. absurd (goes refl))
        | inr high ↦ rw high (λ goes. quiet (λ s. refl) (omega arith) (omega arith) (omega arith))
      ]
  effect_turn (AtD2 r l) awake =
      let next = updated_here m.head r (m.head r + 1) in
      elim (cases_Bool (nat_le c.limit (m.head r))) [
        | inl past ↦ rw past (λ goes. absurd (goes refl))
        | inr under ↦ rw under (λ goes. quiet (λ s. refl) (omega arith) (omega arith) (omega arith))
      ]
  effect_turn (AtD3 r h l) awake =
      let x = word_at c m r h in
      elim (cases_Bool (cycle_in (ring_slots c) x == cycle c h)) [
        | inl same ↦
            rw same (λ goes. quiet (same_entry m.entries.word r (slot c h)) (omega arith) (omega arith) (omega arith))
        | inr other ↦
            elim (cases_Bool (nat_lt (cycle_in (ring_slots c) x) (cycle c h))) [
              | inl lower ↦ rw (other, lower) (λ goes. quiet (same_entry m.entries.word r (slot c h)) (omega arith) (omega arith) (omega arith))
              | inr higher ↦ rw (other, higher) (λ goes. quiet (same_entry m.entries.word r (slot c h)) (omega arith) (omega arith) (omega arith))
            ]
      ]
  effect_turn (AtD4 r h) awake = λ goes. absurd (goes refl)
  effect_turn (AtD5 r h e) awake =
      elim (cases_Bool (word_at c m r h == e)) [
        | inl hit ↦ rw hit (λ goes.
            record { ends = omega arith; level = omega arith; entries = inr (omega arith) })
        | inr miss ↦
            rw miss (λ goes. quiet (same_entry m.entries.word r (slot c h)) (omega arith) (omega arith) (omega arith))
      ]
  effect_turn (AtD6 r h) awake =
      elim (cases_Bool (nat_le (m.tail r) (h + 1))) [
        | inl low ↦ rw low (λ goes. quiet (λ s. refl) (omega arith) (omega arith) (omega arith))
        | inr high ↦ rw high (λ goes. quiet (λ s. refl) (omega arith) (omega arith) (omega arith))
      ]
  effect_turn (AtD7 r h from to) awake =
      elim (cases_Bool (m.tail r == from)) [
        | inl hit ↦ rw hit (λ goes. quiet (λ s. refl) (omega arith) (omega arith) (omega arith))
        | inr miss ↦ rw miss (λ goes. quiet (λ s. refl) (omega arith) (omega arith) (omega arith))
      ]
  effect_turn (AtD8 r h from) awake =
      let same = updated_here m.head r (m.head r) in
      (λ goes. quiet (λ s. refl) (omega arith) (omega arith) (omega arith))
  effect_turn (AtD9 r h from to) awake =
      elim (cases_Bool (nat_le to (m.tail r))) [
        | inl caught ↦ rw caught (λ goes. quiet (λ s. refl) (omega arith) (omega arith) (omega arith))
        | inr under ↦ rw under (λ goes. quiet (λ s. refl) (omega arith) (omega arith) (omega arith))
      ]
  effect_turn (AtD10 r h true) awake = λ goes. absurd (goes refl)
  effect_turn (AtD10 r h false) awake =
      let less = updated_here m.threshold r (m.threshold r - 1) in
      elim (cases_Bool (nat_le (m.threshold r) zero_level)) [
        | inl low ↦ rw low (λ goes. absurd (goes refl))
        | inr high ↦
            let over = leb-false (m.threshold r) zero_level high in
            rw high (λ goes. quiet (λ s. refl) (omega arith) (omega arith) (omega arith))
      ]
