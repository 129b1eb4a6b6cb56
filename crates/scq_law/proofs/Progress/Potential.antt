-- How many steps a seat can still make in its call while no call on its ring ends, read off the
-- state. Plan: Threshold falls with each failed attempt to dequeue, so Head comes only so far; Tail
-- is within the window of Head, so there are only so many tickets to enqueue with; each entry
-- changes only where an enqueue places or an attempt is given up, so exchanges fail only so often;
-- and a catch-up goes on only while Tail is moved below where Head comes.
use Rattle.std.proofs.Common.{◌≡◌, ℕ, ◌+◌, ◌-◌, ◌*◌, ◌≤◌, true, false, refl, inl, inr, arith, eq-eqb, ne_eqb}
use Rattle.std.specs.Prelude.{◌==◌, if◌then◌else◌, List, Option, Some, None}
use Rattle.std.proofs.lemmas.Bool.{cases_eq}
use Rattle.scq_word.specs.declared.setup.Setup.{Setup}
use Rattle.scq_core.specs.declared.phase.Phase.{Phase}
use Rattle.scq_core.specs.declared.phase.Phase.TheVariants.{Idle, AtE1, AtE2, AtE3, AtE4, AtE5, AtE6, AtD1, AtD2, AtD3, AtD4, AtD5, AtD6, AtD7, AtD8, AtD9, AtD10}
use Rattle.scq_core.specs.Exports.{Cells, SeatPart, read, beside, zero_level, ring_slots, slot, ring_of, location_of, after, Stance, gave_up}
use Rattle.scq_core.specs.Exports.{stance_of, placed_ring, put_ring, attempt_ring, one_on, Busy, word_at, total}
use Rattle.scq_core.specs.Machine.{Machine}
use Rattle.scq_law.specs.Exports.{quiet_steps}

-- a seat's part after its turn
abbrev pub part_after : Setup → Machine → ℕ → Phase → SeatPart
part_after c m j turn =
    after c turn (read m.cells (location_of c turn)) (beside m.cells (location_of c turn)) (m.part j)

-- 1 for a seat that may yet draw a ticket of a ring's Head before Threshold falls by it
abbrev pub draw_of : ℕ → Option ℕ → Stance → ℕ
draw_of r (Some t) s = 0
draw_of r None s = 1 - (one_on r (put_ring s) + one_on r (attempt_ring s))

abbrev pub draw_on : ℕ → SeatPart → ℕ
draw_on r p = draw_of r p.spent (stance_of p.phase)

-- 1 for one that may yet change an entry of the ring before that
abbrev pub gave_ring : Stance → Option ℕ
gave_ring (gave_up q h leaves) = Some q
gave_ring s = None

abbrev pub change_of : ℕ → Stance → ℕ
change_of r s = 1 - (one_on r (placed_ring s) + one_on r (gave_ring s))

abbrev pub change_on : ℕ → SeatPart → ℕ
change_on r p = change_of r (stance_of p.phase)

-- how many seats may, by ring
abbrev pub draws_on : Setup → Machine → ℕ → ℕ
draws_on c m r = total (λ p. draw_on r p) m.part c.seats

abbrev pub changes_on : Setup → Machine → ℕ → ℕ
changes_on c m r = total (λ p. change_on r p) m.part c.seats

-- how many failed attempts Threshold still allows
abbrev pub spare_at : Cells → ℕ → ℕ
spare_at m r = m.threshold r - zero_level

-- how far Head comes; how many tickets are left to enqueue with; how often an entry changes; how
-- often Tail may still move below where Head comes, and once more; what an attempt to dequeue and
-- those after it come to
abbrev pub head_end : Cells → (ℕ → ℕ) → ℕ → ℕ
head_end m draws r = m.head r + spare_at m r + draws r

abbrev pub put_draws : Setup → Cells → (ℕ → ℕ) → ℕ → ℕ
put_draws c m draws r = head_end m draws r + ring_slots c - (m.tail r + 1)

abbrev pub changes : Cells → (ℕ → ℕ) → ℕ → ℕ
changes m bits r = spare_at m r + bits r

abbrev pub behind : Cells → (ℕ → ℕ) → ℕ → ℕ
behind m draws r = head_end m draws r + 1 - m.tail r

abbrev pub rounds : Setup → Cells → (ℕ → ℕ) → ℕ → ℕ
rounds c m bits r = 3 * spare_at m r + 2 * changes m bits r + 3 * c.seats

-- 1 where an entry is no longer the word that was loaded, and where Tail isn't
abbrev pub stale : Setup → Cells → ℕ → ℕ → ℕ → ℕ
stale c m r t e = if word_at c m r t == e then 0 else 1

abbrev pub lag : Cells → ℕ → ℕ → ℕ
lag m r from = if m.tail r == from then 0 else 1

-- an entry that was loaded just now
pub stale_fresh : (c : Setup) (m n : Cells) (r t : ℕ)
    → n.entries.word r (slot c t) ≡ word_at c m r t → stale c n r t (word_at c m r t) ≡ 0
stale_fresh c m n r t same = rw (same, eq-eqb (word_at c m r t) (word_at c m r t) refl) refl

-- what is left to a seat, by the phase that it is at
abbrev pub left_to_seat : Setup → Cells → (ℕ → ℕ) → (ℕ → ℕ) → Phase → ℕ
left_to_seat c m draws bits Idle = quiet_steps c
left_to_seat c m draws bits (AtE1 r i w l) = 3 * put_draws c m draws r + 3 * changes m bits r + 1
left_to_seat c m draws bits (AtE2 r i w t l) = 3 * put_draws c m draws r + 3 * changes m bits r + 3
left_to_seat c m draws bits (AtE3 r i w t e) =
    3 * put_draws c m draws r + 3 * (changes m bits r + stale c m r t e) + 2
left_to_seat c m draws bits (AtE4 r i w t e) =
    3 * put_draws c m draws r + 3 * (changes m bits r + stale c m r t e) + 1
left_to_seat c m draws bits (AtE5 r i w t) = 2
left_to_seat c m draws bits (AtE6 r i w t) = 1
left_to_seat c m draws bits (AtD1 r) = rounds c m bits r + 7
left_to_seat c m draws bits (AtD2 r l) = rounds c m bits r + 6
left_to_seat c m draws bits (AtD3 r h l) = rounds c m bits r + 5
left_to_seat c m draws bits (AtD4 r h) = 1
left_to_seat c m draws bits (AtD5 r h e) = rounds c m bits r + 2 * stale c m r h e + 4
left_to_seat c m draws bits (AtD6 r h) = rounds c m bits r + 5
left_to_seat c m draws bits (AtD7 r h from to) = 3 * (behind m draws r + lag m r from) + 1
left_to_seat c m draws bits (AtD8 r h from) = 3 * behind m draws r + 3
left_to_seat c m draws bits (AtD9 r h from to) = 3 * behind m draws r + 2
left_to_seat c m draws bits (AtD10 r h true) = 1
left_to_seat c m draws bits (AtD10 r h false) = rounds c m bits r + 4

-- what a step leaves on a ring: so many units more at most, and no unit where it ends no call there
pub record Leaves (units : ℕ) (c : Setup) (m n : Cells) (dm bm dn bn : ℕ → ℕ) (r : ℕ) : Type 0 where
  pub ends : head_end n dn r ≤ head_end m dm r + units
  pub tail : m.tail r ≤ n.tail r
  pub level : spare_at n r ≤ spare_at m r
  pub change : changes n bn r ≤ changes m bm r + units
  pub looks : (t e : ℕ) → changes n bn r + stale c n r t e
      ≤ changes m bm r + stale c m r t e + units

-- a catch-up has no more left, since Tail moves only from below where Head comes
pub lag_left : (tail tail' far far' from : ℕ) → tail ≤ tail' → far' ≤ far → from ≤ far
    → (far' + 1 - tail') + (if tail' == from then 0 else 1)
    ≤ (far + 1 - tail) + (if tail == from then 0 else 1)
lag_left tail tail' far far' from up down low =
    elim (cases_eq tail' from) [
      | inl now ↦
          rw (eq-eqb tail' from now)
          (elim (cases_eq tail from) [
            | inl was ↦ rw (eq-eqb tail from was) (omega arith)
            | inr other ↦ rw (ne_eqb tail from other) (omega arith)
          ])
      | inr apart ↦
          rw (ne_eqb tail' from apart)
          (elim (cases_eq tail from) [
            | inl was ↦ rw (eq-eqb tail from was) (omega arith)
            | inr other ↦ rw (ne_eqb tail from other) (omega arith)
          ])
    ]

-- so a seat that makes no step has at most 6 steps more left for each unit
pub others_left : (units : ℕ) (c : Setup) (m n : Cells) (dm bm dn bn : ℕ → ℕ) (hand : List ℕ)
    (phase : Phase) → Busy c m hand phase → Leaves units c m n dm bm dn bn (ring_of phase)
    → left_to_seat c n dn bn phase ≤ left_to_seat c m dm bm phase + 6 * units
others_left u c m n dm bm dn bn hand Idle busy q = omega arith
others_left u c m n dm bm dn bn hand (AtE1 r i w l) busy q =
    let a = q.ends in let b = q.tail in let d = q.change in omega arith
others_left u c m n dm bm dn bn hand (AtE2 r i w t l) busy q =
    let a = q.ends in let b = q.tail in let d = q.change in omega arith
others_left u c m n dm bm dn bn hand (AtE3 r i w t e) busy q =
    let a = q.ends in let b = q.tail in let d = q.looks t e in omega arith
others_left u c m n dm bm dn bn hand (AtE4 r i w t e) busy q =
    let a = q.ends in let b = q.tail in let d = q.looks t e in omega arith
others_left u c m n dm bm dn bn hand (AtE5 r i w t) busy q = omega arith
others_left u c m n dm bm dn bn hand (AtE6 r i w t) busy q = omega arith
others_left u c m n dm bm dn bn hand (AtD1 r) busy q =
    let a = q.level in let d = q.change in omega arith
others_left u c m n dm bm dn bn hand (AtD2 r l) busy q =
    let a = q.level in let d = q.change in omega arith
others_left u c m n dm bm dn bn hand (AtD3 r h l) busy q =
    let a = q.level in let d = q.change in omega arith
others_left u c m n dm bm dn bn hand (AtD4 r h) busy q = omega arith
others_left u c m n dm bm dn bn hand (AtD5 r h e) busy q =
    let a = q.level in let d = q.looks h e in omega arith
others_left u c m n dm bm dn bn hand (AtD6 r h) busy q =
    let a = q.level in let d = q.change in omega arith
others_left u c m n dm bm dn bn hand (AtD7 r h from to) busy q =
    let up = busy.2 in
    let rises = up.rises in
    let low = up.behind_head in
    let more = lag_left (m.tail r) (n.tail r) (head_end m dm r + u) (head_end n dn r) from q.tail
    q.ends (omega arith) in
    omega arith
others_left u c m n dm bm dn bn hand (AtD8 r h from) busy q =
    let a = q.ends in let b = q.tail in omega arith
others_left u c m n dm bm dn bn hand (AtD9 r h from to) busy q =
    let a = q.ends in let b = q.tail in omega arith
others_left u c m n dm bm dn bn hand (AtD10 r h true) busy q = omega arith
others_left u c m n dm bm dn bn hand (AtD10 r h false) busy q =
    let a = q.level in let d = q.change in omega arith
