-- How many steps a call can still make while no other seat makes one, read off the state. Plan:
-- alone Tail stands still while a get goes on, so each attempt that fails brings Head one ticket
-- closer to it, and one that finds Tail no further than its ticket leaves; a put draws only up to
-- the window of Head, which stands still; and an exchange fails at most once, if the entry had
-- changed before.
use Rattle.std.proofs.Common.{◌≡◌, ℕ, ◌+◌, ◌-◌, ◌*◌, ◌<◌, ◌≤◌, true, false, ◌&&◌, refl, inl, inr, arith, eq-eqb, ne_eqb}
use Rattle.std.specs.Prelude.{◌==◌, nat_lt, nat_le, min, Bool, if◌then◌else◌}
use Rattle.std.proofs.lemmas.Bool.{cases_Bool, cases_eq, leb-false}
use Rattle.scq_word.specs.declared.setup.Setup.{Setup}
use Rattle.scq_word.specs.Exports.{safe_in, cycle_in, is_none_in}
use Rattle.scq_core.specs.declared.phase.Phase.{Phase}
use Rattle.scq_core.specs.declared.phase.Phase.TheVariants.{Idle, AtE1, AtE2, AtE3, AtE4, AtE5, AtE6, AtD1, AtD2, AtD3, AtD4, AtD5, AtD6, AtD7, AtD8, AtD9, AtD10}
use Rattle.scq_core.specs.Exports.{Cells, SeatPart, read, beside, ring_slots, cycle, slot, zero_level, reset_level, ring_of, location_of, after}
use Rattle.scq_core.specs.Exports.{cells_after, word_at}
use Rattle.scq_core.proofs.Entries.{some_indices, some_seats}
use Rattle.scq_core.proofs.Steady.{either_way}
use Rattle.scq_core.proofs.UpdatedLemmas.{updated_here, updated_entry_here}
use Rattle.scq_law.specs.Exports.{alone_steps}
use Rattle.scq_law.proofs.Progress.Potential.{stale, stale_fresh, lag}

-- how many tickets Tail is ahead of Head, below the limit; how many Tail may still draw in the
-- window of Head
abbrev pub ahead : Setup → Cells → ℕ → ℕ
ahead c m r = min (m.tail r) c.limit - m.head r

abbrev pub vacant : Setup → Cells → ℕ → ℕ
vacant c m r = m.head r + ring_slots c - (m.tail r + 1)

abbrev pub alone_left : Setup → Cells → Phase → ℕ
alone_left c m Idle = alone_steps c
alone_left c m (AtE1 r i w l) = 3 * vacant c m r + 4
alone_left c m (AtE2 r i w t l) = 3 * vacant c m r + 6
alone_left c m (AtE3 r i w t e) = 3 * (vacant c m r + stale c m r t e) + 5
alone_left c m (AtE4 r i w t e) = 3 * (vacant c m r + stale c m r t e) + 4
alone_left c m (AtE5 r i w t) = 2
alone_left c m (AtE6 r i w t) = 1
alone_left c m (AtD1 r) = 5 * ahead c m r + 7
alone_left c m (AtD2 r l) = 5 * ahead c m r + 6
alone_left c m (AtD3 r h l) = if nat_le (m.tail r) (h + 1) then 5 else 5 * ahead c m r + 10
alone_left c m (AtD4 r h) = 1
alone_left c m (AtD5 r h e) =
    (if nat_le (m.tail r) (h + 1) then 4 else 5 * ahead c m r + 9) + 2 * stale c m r h e
alone_left c m (AtD6 r h) = if nat_le (m.tail r) (h + 1) then 3 else 5 * ahead c m r + 8
alone_left c m (AtD7 r h from to) = 3 * lag m r from + 2
alone_left c m (AtD8 r h from) = 4
alone_left c m (AtD9 r h from to) = 3
alone_left c m (AtD10 r h true) = 1
alone_left c m (AtD10 r h false) = 5 * ahead c m r + 7

module _ (c : Setup) (m : Cells) (p : SeatPart) where
  -- of a turn whose call goes on, with Tail in the window of Head after it
  abbrev AloneLessBy : Phase → Type 0
  AloneLessBy turn =
      ((after c turn (read m (location_of c turn)) (beside m (location_of c turn)) p).phase ≡ Idle
      → ⊥)
      → min ((cells_after c turn m).tail (ring_of turn)) c.limit + 1
      ≤ (cells_after c turn m).head (ring_of turn) + ring_slots c
      → alone_left c (cells_after c turn m)
      (after c turn (read m (location_of c turn)) (beside m (location_of c turn)) p).phase
      < alone_left c m turn

  pub alone_less : (turn : Phase) → (turn ≡ Idle → ⊥) → AloneLessBy turn
  alone_less Idle awake = absurd (awake refl)
  alone_less (AtE1 r i w l) awake =
      let next = updated_here m.tail r (m.tail r + 1) in
      elim (cases_Bool (nat_le c.limit (m.tail r))) [
        | inl past ↦ rw past (λ goes window. absurd (goes refl))
        | inr under ↦
            let low = leb-false c.limit (m.tail r) under in
            rw under (λ goes window. omega arith)
      ]
  alone_less (AtE2 r i w t l) awake =
      let x = word_at c m r t in
      let none = stale_fresh c m (cells_after c (AtE2 r i w t l) m) r t
      (updated_entry_here m.entries.word r (slot c t) x) in
      elim
      (cases_Bool (nat_lt (cycle_in (ring_slots c) x) (cycle c t) && is_none_in (ring_slots c) x)) [
        | inl fits ↦
            elim (cases_Bool (safe_in (ring_slots c) x == 1)) [
              | inl safe ↦ rw (fits, safe) (λ goes window. omega arith)
              | inr unsafe ↦ rw (fits, unsafe) (λ goes window. omega arith)
            ]
        | inr fails ↦ rw fails (λ goes window. omega arith)
      ]
  alone_less (AtE3 r i w t e) awake =
      let same = updated_here m.head r (m.head r) in
      elim (cases_Bool (nat_le (m.head r) t)) [
        | inl low ↦ rw low (λ goes window. omega arith)
        | inr fails ↦ rw fails (λ goes window. omega arith)
      ]
  alone_less (AtE4 r i w t e) awake =
      let x = word_at c m r t in
      elim (cases_eq x e) [
        | inl hit ↦ rw (eq-eqb x e hit) (λ goes window. omega arith)
        | inr miss ↦ rw (ne_eqb x e miss) (λ goes window. omega arith)
      ]
  alone_less (AtE5 r i w t) awake =
      elim (cases_Bool (m.threshold r == reset_level c)) [
        | inl high ↦ rw high (λ goes window. absurd (goes refl))
        | inr low ↦ rw low (λ goes window. omega arith)
      ]
  alone_less (AtE6 r i w t) awake = λ goes window. absurd (goes refl)
  alone_less (AtD1 r) awake =
      elim (cases_Bool (nat_lt (m.threshold r) zero_level)) [
        | inl low ↦ rw low (λ goes window. absurd (goes refl))
        | inr high ↦ rw high (λ goes window. omega arith)
      ]
  alone_less (AtD2 r l) awake =
      let next = updated_here m.head r (m.head r + 1) in
      elim (cases_Bool (nat_le c.limit (m.head r))) [
        | inl past ↦ rw past (λ goes window. absurd (goes refl))
        | inr under ↦
            let low = leb-false c.limit (m.head r) under in
            elim (cases_Bool (nat_le (m.tail r) (m.head r + 1))) [
              | inl last ↦ rw (under, last) (λ goes window. omega arith)
              | inr far ↦
                  let over = leb-false (m.tail r) (m.head r + 1) far in
                  rw (under, far) (λ goes window. omega arith)
            ]
      ]
  alone_less (AtD3 r h l) awake =
      let x = word_at c m r h in
      let none = stale_fresh c m (cells_after c (AtD3 r h l) m) r h
      (updated_entry_here m.entries.word r (slot c h) x) in
      elim (cases_Bool (cycle_in (ring_slots c) x == cycle c h)) [
        | inl same ↦
            elim (cases_Bool (nat_le (m.tail r) (h + 1))) [
              | inl last ↦ rw (same, last) (λ goes window. omega arith)
              | inr far ↦ rw (same, far) (λ goes window. omega arith)
            ]
        | inr other ↦
            elim (cases_Bool (nat_lt (cycle_in (ring_slots c) x) (cycle c h))) [
              | inl lower ↦
                  elim (cases_Bool (nat_le (m.tail r) (h + 1))) [
                    | inl last ↦ rw (other, lower, last) (λ goes window. omega arith)
                    | inr far ↦ rw (other, lower, far) (λ goes window. omega arith)
                  ]
              | inr higher ↦
                  elim (cases_Bool (nat_le (m.tail r) (h + 1))) [
                    | inl last ↦ rw (other, higher, last) (λ goes window. omega arith)
                    | inr far ↦ rw (other, higher, far) (λ goes window. omega arith)
                  ]
            ]
      ]
  alone_less (AtD4 r h) awake = λ goes window. absurd (goes refl)
  alone_less (AtD5 r h e) awake =
      let x = word_at c m r h in
      elim (cases_Bool (nat_le (m.tail r) (h + 1))) [
        | inl last ↦
            elim (cases_eq x e) [
              | inl hit ↦ rw (eq-eqb x e hit, last) (λ goes window. omega arith)
              | inr miss ↦ rw (ne_eqb x e miss, last) (λ goes window. omega arith)
            ]
        | inr far ↦
            elim (cases_eq x e) [
              | inl hit ↦ rw (eq-eqb x e hit, far) (λ goes window. omega arith)
              | inr miss ↦ rw (ne_eqb x e miss, far) (λ goes window. omega arith)
            ]
      ]
  alone_less (AtD6 r h) awake =
      let same = updated_here m.tail r (m.tail r) in
      let none : lag (cells_after c (AtD6 r h) m) r (m.tail r) ≡ 0 =
      rw (same, eq-eqb (m.tail r) (m.tail r) refl) refl in
      elim (cases_Bool (nat_le (m.tail r) (h + 1))) [
        | inl last ↦ rw last (λ goes window. omega arith)
        | inr far ↦ rw far (λ goes window. omega arith)
      ]
  alone_less (AtD7 r h from to) awake =
      elim (cases_eq (m.tail r) from) [
        | inl hit ↦ rw (eq-eqb (m.tail r) from hit) (λ goes window. omega arith)
        | inr miss ↦ rw (ne_eqb (m.tail r) from miss) (λ goes window. omega arith)
      ]
  alone_less (AtD8 r h from) awake = λ goes window. omega arith
  alone_less (AtD9 r h from to) awake =
      let same = updated_here m.tail r (m.tail r) in
      let none : lag (cells_after c (AtD9 r h from to) m) r (m.tail r) ≡ 0 =
      rw (same, eq-eqb (m.tail r) (m.tail r) refl) refl in
      elim (cases_Bool (nat_le to (m.tail r))) [
        | inl caught ↦ rw caught (λ goes window. omega arith)
        | inr under ↦ rw under (λ goes window. omega arith)
      ]
  alone_less (AtD10 r h true) awake = λ goes window. absurd (goes refl)
  alone_less (AtD10 r h false) awake =
      elim (cases_Bool (nat_le (m.threshold r) zero_level)) [
        | inl low ↦ rw low (λ goes window. absurd (goes refl))
        | inr high ↦ rw high (λ goes window. omega arith)
      ]

-- either number is no more than the bound
either_few : (c : Setup) (last : Bool) (a b : ℕ) → a ≤ alone_steps c → b ≤ alone_steps c
    → (if last then a else b) ≤ alone_steps c
either_few c last a b one other = either_way (λ (v : ℕ). v ≤ alone_steps c) last a b one other

-- no call has more left alone than the bound, where Tail is in the window of Head, and Head no
-- further past Tail than seats
module _ (c : Setup) (m : Cells) (stale_few : (r t e : ℕ) → stale c m r t e ≤ 1)
    (lag_few : (r from : ℕ) → lag m r from ≤ 1)
    (window : (r : ℕ) → min (m.tail r) c.limit + 1 ≤ m.head r + ring_slots c)
    (gap : (r : ℕ) → m.head r ≤ m.tail r + c.seats) where
  put_few : (r : ℕ) → 3 * (vacant c m r + 1) + 5 ≤ alone_steps c
  put_few r = let near = gap r in let some = some_indices c in omega arith

  get_few : (r : ℕ) → 5 * ahead c m r + 11 ≤ alone_steps c
  get_few r =
      let near = window r in
      let some = some_indices c in
      let seats = some_seats c in
      omega arith

  pub alone_few : (phase : Phase) → alone_left c m phase ≤ alone_steps c
  alone_few Idle = omega arith
  alone_few (AtE1 r i w l) = let few = put_few r in omega arith
  alone_few (AtE2 r i w t l) = let few = put_few r in omega arith
  alone_few (AtE3 r i w t e) = let few = put_few r in let bit = stale_few r t e in omega arith
  alone_few (AtE4 r i w t e) = let few = put_few r in let bit = stale_few r t e in omega arith
  alone_few (AtE5 r i w t) = let few = get_few r in omega arith
  alone_few (AtE6 r i w t) = let few = get_few r in omega arith
  alone_few (AtD1 r) = let few = get_few r in omega arith
  alone_few (AtD2 r l) = let few = get_few r in omega arith
  alone_few (AtD3 r h l) =
      let few = get_few r in
      either_few c (nat_le (m.tail r) (h + 1)) 5 (5 * ahead c m r + 10) (omega arith) (omega arith)
  alone_few (AtD4 r h) = let few = get_few r in omega arith
  alone_few (AtD5 r h e) =
      let few = get_few r in
      let bit = stale_few r h e in
      elim (cases_Bool (nat_le (m.tail r) (h + 1))) [
        | inl last ↦ rw last (omega arith)
        | inr far ↦ rw far (omega arith)
      ]
  alone_few (AtD6 r h) =
      let few = get_few r in
      either_few c (nat_le (m.tail r) (h + 1)) 3 (5 * ahead c m r + 8) (omega arith) (omega arith)
  alone_few (AtD7 r h from to) = let few = get_few r in let bit = lag_few r from in omega arith
  alone_few (AtD8 r h from) = let few = get_few r in omega arith
  alone_few (AtD9 r h from to) = let few = get_few r in omega arith
  alone_few (AtD10 r h true) = let few = get_few r in omega arith
  alone_few (AtD10 r h false) = let few = get_few r in omega arith

-- each call has something left
pub alone_some : (c : Setup) (m : Cells) (phase : Phase) → 1 ≤ alone_left c m phase
alone_some c m Idle = omega arith
alone_some c m (AtD3 r h l) =
    either_way (λ (v : ℕ). 1 ≤ v) (nat_le (m.tail r) (h + 1)) 5 (5 * ahead c m r + 10) (omega arith)
    (omega arith)
alone_some c m (AtD5 r h e) =
    elim (cases_Bool (nat_le (m.tail r) (h + 1))) [
      | inl last ↦ rw last (omega arith)
      | inr far ↦ rw far (omega arith)
    ]
alone_some c m (AtD6 r h) =
    either_way (λ (v : ℕ). 1 ≤ v) (nat_le (m.tail r) (h + 1)) 3 (5 * ahead c m r + 8) (omega arith)
    (omega arith)
alone_some c m (AtD10 r h true) = omega arith
alone_some c m (AtD10 r h false) = omega arith
alone_some c m phase = omega arith
