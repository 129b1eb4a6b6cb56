-- Each step of a seat that doesn't end its call leaves it fewer. Plan: by turns; a failed exchange
-- found an entry that had changed, a failed ticket is one of those that are left, an attempt that
-- goes on took one from Threshold.
use Rattle.std.proofs.Common.{◌≡◌, ℕ, ◌+◌, ◌-◌, ◌<◌, ◌≤◌, true, false, ◌&&◌, refl, inl, inr, arith, eq-eqb, ne_eqb}
use Rattle.std.specs.Prelude.{◌==◌, nat_lt, nat_le, min}
use Rattle.std.proofs.lemmas.Bool.{cases_Bool, cases_eq, leb-false}
use Rattle.scq_word.specs.declared.setup.Setup.{Setup}
use Rattle.scq_word.specs.Exports.{safe_in, cycle_in, is_none_in}
use Rattle.scq_core.specs.declared.phase.Phase.{Phase}
use Rattle.scq_core.specs.declared.phase.Phase.TheVariants.{Idle, AtE1, AtE2, AtE3, AtE4, AtE5, AtE6, AtD1, AtD2, AtD3, AtD4, AtD5, AtD6, AtD7, AtD8, AtD9, AtD10}
use Rattle.scq_core.specs.Exports.{Cells, SeatPart, read, beside, ring_slots, cycle, slot, zero_level, reset_level, ring_of, location_of, after}
use Rattle.scq_core.specs.Exports.{cells_after, Busy, word_at}
use Rattle.scq_core.proofs.UpdatedLemmas.{updated_here, updated_entry_here}
use Rattle.scq_law.proofs.Progress.Potential.{stale_fresh, lag, left_to_seat, Leaves}
use Rattle.scq_law.proofs.Progress.SeatCounts.{own_change}

-- dm and bm are the counts of draws and of changes of all seats before the turn, dn and bn those
-- after it
module _ (c : Setup) (m : Cells) (p : SeatPart) (dm bm : ℕ → ℕ) where
  -- of a turn whose call goes on: where its ring has no more of anything, its seat's count of
  -- changes moves as the phase says, and Tail and Head stand in the window and in the gap, fewer
  -- steps are left
  abbrev FewerBy : Phase → Type 0
  FewerBy turn =
      (dn bn : ℕ → ℕ)
      → ((after c turn (read m (location_of c turn)) (beside m (location_of c turn)) p).phase ≡ Idle
      → ⊥)
      → Leaves 0 c m (cells_after c turn m) dm bm dn bn (ring_of turn)
      → bn (ring_of turn) + own_change turn
      ≡ bm (ring_of turn)
      + own_change (after c turn (read m (location_of c turn)) (beside m (location_of c turn))
      p).phase
      → own_change turn ≤ bm (ring_of turn)
      → min ((cells_after c turn m).tail (ring_of turn)) c.limit + 1
      ≤ (cells_after c turn m).head (ring_of turn) + ring_slots c
      → m.head (ring_of turn) + dm (ring_of turn) ≤ m.tail (ring_of turn) + c.seats
      → left_to_seat c (cells_after c turn m) dn bn
      (after c turn (read m (location_of c turn)) (beside m (location_of c turn)) p).phase
      < left_to_seat c m dm bm turn

  pub fewer : (turn : Phase) → (turn ≡ Idle → ⊥) → Busy c m p.hand turn → FewerBy turn
  fewer Idle awake busy = absurd (awake refl)
  fewer (AtE1 r i w l) awake busy =
      let next = updated_here m.tail r (m.tail r + 1) in
      elim (cases_Bool (nat_le c.limit (m.tail r))) [
        | inl past ↦ rw past (λ dn bn goes q bit some window gap. absurd (goes refl))
        | inr under ↦
            let low = leb-false c.limit (m.tail r) under in
            rw under (λ dn bn goes q bit some window gap.
            let a = q.ends in let d = q.change in omega arith)
      ]
  fewer (AtE2 r i w t l) awake busy =
      let x = word_at c m r t in
      let none = stale_fresh c m (cells_after c (AtE2 r i w t l) m) r t
      (updated_entry_here m.entries.word r (slot c t) x) in
      elim (cases_Bool (nat_lt (cycle_in (ring_slots c) x) (cycle c t) && is_none_in (ring_slots c)
      x)) [
        | inl fits ↦
            elim (cases_Bool (safe_in (ring_slots c) x == 1)) [
              | inl safe ↦ rw (fits, safe) (λ dn bn goes q bit some window gap. let a = q.ends in let b = q.tail in let d = q.change in omega arith)
              | inr unsafe ↦ rw (fits, unsafe) (λ dn bn goes q bit some window gap. let a = q.ends in let b = q.tail in let d = q.change in omega arith)
            ]
        | inr fails ↦
            rw fails (λ dn bn goes q bit some window gap.
            let a = q.ends in let b = q.tail in let d = q.change in omega arith)
      ]
  fewer (AtE3 r i w t e) awake busy =
      elim (cases_Bool (nat_le (m.head r) t)) [
        | inl low ↦ rw low
            (λ dn bn goes q bit some window gap.
            let a = q.ends in let b = q.tail in let d = q.looks t e in omega arith)
        | inr fails ↦ rw fails
            (λ dn bn goes q bit some window gap.
            let a = q.ends in let b = q.tail in let d = q.change in omega arith)
      ]
  fewer (AtE4 r i w t e) awake busy =
      let x = word_at c m r t in
      elim (cases_eq x e) [
        | inl hit ↦ rw (eq-eqb x e hit) (λ dn bn goes q bit some window gap. omega arith)
        | inr miss ↦ rw (ne_eqb x e miss) (λ dn bn goes q bit some window gap. let a = q.ends in let b = q.tail in let d = q.change in omega arith)
      ]
  fewer (AtE5 r i w t) awake busy =
      elim (cases_Bool (m.threshold r == reset_level c)) [
        | inl high ↦ rw high (λ dn bn goes q bit some window gap. absurd (goes refl))
        | inr low ↦ rw low (λ dn bn goes q bit some window gap. omega arith)
      ]
  fewer (AtE6 r i w t) awake busy = λ dn bn goes q bit some window gap. absurd (goes refl)
  fewer (AtD1 r) awake busy =
      elim (cases_Bool (nat_lt (m.threshold r) zero_level)) [
        | inl low ↦ rw low (λ dn bn goes q bit some window gap. absurd (goes refl))
        | inr high ↦ rw high
            (λ dn bn goes q bit some window gap.
            let a = q.level in let d = q.change in omega arith)
      ]
  fewer (AtD2 r l) awake busy =
      elim (cases_Bool (nat_le c.limit (m.head r))) [
        | inl past ↦ rw past (λ dn bn goes q bit some window gap. absurd (goes refl))
        | inr under ↦ rw under
            (λ dn bn goes q bit some window gap.
            let a = q.level in let d = q.change in omega arith)
      ]
  fewer (AtD3 r h l) awake busy =
      let x = word_at c m r h in
      let none = stale_fresh c m (cells_after c (AtD3 r h l) m) r h
      (updated_entry_here m.entries.word r (slot c h) x) in
      elim (cases_Bool (cycle_in (ring_slots c) x == cycle c h)) [
        | inl same ↦ rw same (λ dn bn goes q bit some window gap. omega arith)
        | inr other ↦
            elim (cases_Bool (nat_lt (cycle_in (ring_slots c) x) (cycle c h))) [
              | inl lower ↦
                  rw (other, lower) (λ dn bn goes q bit some window gap.
                  let a = q.level in let d = q.change in omega arith)
              | inr higher ↦ rw (other, higher) (λ dn bn goes q bit some window gap. omega arith)
            ]
      ]
  fewer (AtD4 r h) awake busy = λ dn bn goes q bit some window gap. absurd (goes refl)
  fewer (AtD5 r h e) awake busy =
      let x = word_at c m r h in
      elim (cases_eq x e) [
        | inl hit ↦ rw (eq-eqb x e hit) (λ dn bn goes q bit some window gap. omega arith)
        | inr miss ↦
            rw (ne_eqb x e miss) (λ dn bn goes q bit some window gap.
            let a = q.level in let d = q.change in omega arith)
      ]
  fewer (AtD6 r h) awake busy =
      let same = updated_here m.tail r (m.tail r) in
      let none : lag (cells_after c (AtD6 r h) m) r (m.tail r) ≡ 0 =
      rw (same, eq-eqb (m.tail r) (m.tail r) refl) refl in
      elim (cases_Bool (nat_le (m.tail r) (h + 1))) [
        | inl low ↦ rw low (λ dn bn goes q bit some window gap. let a = q.ends in omega arith)
        | inr high ↦ rw high
            (λ dn bn goes q bit some window gap.
            let a = q.level in let d = q.change in omega arith)
      ]
  fewer (AtD7 r h from to) awake busy =
      let up = busy.2 in
      let rises = up.rises in
      let behind_head = up.behind_head in
      elim (cases_eq (m.tail r) from) [
        | inl hit ↦ rw (eq-eqb (m.tail r) from hit)
            (λ dn bn goes q bit some window gap. omega arith)
        | inr miss ↦
            rw (ne_eqb (m.tail r) from miss)
            (λ dn bn goes q bit some window gap. let a = q.ends in let b = q.tail in omega arith)
      ]
  fewer (AtD8 r h from) awake busy = λ dn bn goes q bit some window gap.
      let a = q.ends in let b = q.tail in omega arith
  fewer (AtD9 r h from to) awake busy =
      let same = updated_here m.tail r (m.tail r) in
      let none : lag (cells_after c (AtD9 r h from to) m) r (m.tail r) ≡ 0 =
      rw (same, eq-eqb (m.tail r) (m.tail r) refl) refl in
      elim (cases_Bool (nat_le to (m.tail r))) [
        | inl caught ↦ rw caught (λ dn bn goes q bit some window gap. omega arith)
        | inr under ↦ rw under
            (λ dn bn goes q bit some window gap.
            let a = q.ends in let b = q.tail in omega arith)
      ]
  fewer (AtD10 r h true) awake busy = λ dn bn goes q bit some window gap. absurd (goes refl)
  fewer (AtD10 r h false) awake busy =
      let less = updated_here m.threshold r (m.threshold r - 1) in
      elim (cases_Bool (nat_le (m.threshold r) zero_level)) [
        | inl low ↦ rw low (λ dn bn goes q bit some window gap. absurd (goes refl))
        | inr high ↦
            let over = leb-false (m.threshold r) zero_level high in
            rw high (λ dn bn goes q bit some window gap. omega arith)
      ]
