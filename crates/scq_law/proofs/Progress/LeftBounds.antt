-- No call has more left than the bound, in whatever state. Plan: Threshold is no higher than a
-- reset sets it, a seat with a ticket of Head at or past Tail draws none before Threshold falls,
-- and each seat may change an entry at most once before that.
use Rattle.std.proofs.Common.{◌≡◌, ℕ, ◌+◌, ◌*◌, ◌<◌, ◌≤◌, ◌⊎◌, true, false, refl, sym, ◌∙◌, inl, inr, arith, eq-eqb, ne_eqb}
use Rattle.std.specs.Prelude.{◌==◌, Option, Some, None}
use Rattle.std.proofs.lemmas.Bool.{cases_eq}
use Rattle.scq_word.specs.declared.setup.Setup.{Setup}
use Rattle.scq_core.specs.declared.phase.Phase.{Phase}
use Rattle.scq_core.specs.declared.phase.Phase.TheVariants.{Idle, AtE1, AtE2, AtE3, AtE4, AtE5, AtE6, AtD1, AtD2, AtD3, AtD4, AtD5, AtD6, AtD7, AtD8, AtD9, AtD10}
use Rattle.scq_core.specs.Exports.{Cells, SeatPart, ring_of, Stance, trying, gave_up, stance_of, put_ring, IsReachable}
use Rattle.scq_core.specs.Machine.{Machine}
use Rattle.scq_core.proofs.Counts.{total_few, total_less}
use Rattle.scq_core.proofs.Entries.{some_indices, some_seats, reset_covers}
use Rattle.scq_core.proofs.Floor.{threshold_floor}
use Rattle.scq_core.proofs.Steady.{steady, either_way}
use Rattle.scq_word.specs.Exports.{reset_value}
use Rattle.scq_law.specs.Exports.{quiet_steps}
use Rattle.scq_law.proofs.Base.SeatSums.{total_plus}
use Rattle.scq_law.proofs.Progress.HeadGap.{ticket_held, ticket_on, is_any, head_gap}
use Rattle.scq_law.proofs.Progress.Potential.{draw_of, draw_on, change_of, change_on, draws_on, changes_on, spare_at, put_draws, changes, behind, rounds, lag, left_to_seat}
use Rattle.scq_law.proofs.Progress.SeatCounts.{own_draw, draw_own}
use Rattle.scq_law.proofs.Progress.QuietTurns.{stale_bit}

-- a seat that has a ticket draws none before Threshold falls
one_or_other : (r : ℕ) (o : Option ℕ) (s : Stance) → draw_of r o s + is_any (ticket_held r o s) ≤ 1
one_or_other r (Some t) s = omega arith
one_or_other r None (trying q h) =
    elim (cases_eq q r) [
      | inl same ↦ rw (eq-eqb q r same) (omega arith)
      | inr other ↦
          rw (ne_eqb q r other) (omega arith)
    ]
one_or_other r None (gave_up q h leaves) =
    elim (cases_eq q r) [
      | inl same ↦ rw (eq-eqb q r same) (omega arith)
      | inr other ↦
          rw (ne_eqb q r other) (omega arith)
    ]
one_or_other r None s = omega arith

-- what counts of a seat: that it may draw a ticket of Head, or has one
abbrev counts_on : ℕ → SeatPart → ℕ
counts_on r p = draw_on r p + is_any (ticket_on r p)

change_few : (r : ℕ) (s : Stance) → change_of r s ≤ 1
change_few r s = omega arith

none_unless_idle : (o : Option ℕ) (phase : Phase) → ((t : ℕ) → o ≡ Some t → phase ≡ Idle)
    → (phase ≡ Idle → ⊥) → o ≡ None
none_unless_idle None phase rests busy = refl
none_unless_idle (Some t) phase rests busy = absurd (busy (rests t refl))

module _ (c : Setup) (m : Machine) (reachable : IsReachable c m) where
  spare_few : (r : ℕ) → spare_at m.cells r ≤ reset_value c.order c.seats
  spare_few r = let high = (threshold_floor c m reachable).ceiling r in omega arith

  changes_few : (r : ℕ) → changes_on c m r ≤ c.seats
  changes_few r = total_few (λ (p : SeatPart). change_on r p) m.part
      (λ p. change_few r (stance_of p.phase)) c.seats

  -- Head with the draws that are left, before Threshold falls
  pub gap : (r : ℕ) → m.cells.head r + draws_on c m r ≤ m.cells.tail r + c.seats
  gap r =
      let few = total_few (counts_on r) m.part (λ p. one_or_other r p.spent (stance_of p.phase))
      c.seats in
      let sum = total_plus (λ (p : SeatPart). draw_on r p) (λ (p : SeatPart). is_any (ticket_on r p)) m.part
      c.seats in
      let head = head_gap c m reachable r in
      omega arith

  -- one less where a seat counts nothing
  gap_less : (r k : ℕ) → k < c.seats → counts_on r (m.part k) ≡ 0
      → m.cells.head r + draws_on c m r + 1 ≤ m.cells.tail r + c.seats
  gap_less r k low none =
      let few = total_less (counts_on r) m.part (λ p. one_or_other r p.spent (stance_of p.phase))
      c.seats k low none in
      let sum = total_plus (λ (p : SeatPart). draw_on r p) (λ (p : SeatPart). is_any (ticket_on r p)) m.part
      c.seats in
      let head = head_gap c m reachable r in
      omega arith

  -- an enqueue counts nothing on its ring
  put_counts : (k : ℕ) (phase : Phase) → (m.part k).phase ≡ phase → (phase ≡ Idle → ⊥)
      → put_ring (stance_of phase) ≡ Some (ring_of phase) → own_draw phase ≡ 0
      → ticket_held (ring_of phase) None (stance_of phase) ≡ None
      → counts_on (ring_of phase) (m.part k) ≡ 0
  put_counts k phase is busy put none ticket =
      let kept = (steady c m reachable).kept k in
      let free = none_unless_idle (m.part k).spent (m.part k).phase (λ t e. (kept t e).0)
      (λ idle. busy (sym is ∙ idle)) in
      let draw : draw_on (ring_of phase) (m.part k)
      ≡ draw_of (ring_of phase) None (stance_of phase) = rw (free, is) refl in
      let own = draw_own phase in
      let held : is_any (ticket_on (ring_of phase) (m.part k)) ≡ 0 = rw (free, is, ticket) refl in
      omega arith

  -- numbers of a phase that an enqueue is at
  put_few : (k r : ℕ) → k < c.seats → counts_on r (m.part k) ≡ 0
      → 3 * put_draws c m.cells (draws_on c m) r + 3 * (changes m.cells (changes_on c m) r + 1) + 2
      < quiet_steps c
  put_few k r low none =
      let head = gap_less r k low none in
      let spare = spare_few r in
      let bits = changes_few r in
      let some = some_indices c in
      let seats = some_seats c in
      omega arith

  get_few : (r : ℕ) → rounds c m.cells (changes_on c m) r + 7 < quiet_steps c
  get_few r =
      let spare = spare_few r in
      let bits = changes_few r in
      let some = some_indices c in let covers = reset_covers c in
      omega arith

  catch_few : (r : ℕ) → 3 * (behind m.cells (draws_on c m) r + 1) + 1 < quiet_steps c
  catch_few r =
      let head = gap r in
      let spare = spare_few r in
      let some = some_indices c in let covers = reset_covers c in
      omega arith

  pub lag_bit : (r from : ℕ) → lag m.cells r from ≤ 1
  lag_bit r from = either_way (λ (v : ℕ). v ≤ 1) (m.cells.tail r == from) 0 1 (omega arith)
      (omega arith)

  few_at : (k : ℕ) (phase : Phase) → k < c.seats → (m.part k).phase ≡ phase → (phase ≡ Idle → ⊥)
      → left_to_seat c m.cells (draws_on c m) (changes_on c m) phase < quiet_steps c
  few_at k Idle low is busy = absurd (busy refl)
  few_at k (AtE1 r i w l) low is busy =
      let few = put_few k r low (put_counts k (AtE1 r i w l) is busy refl refl refl) in omega arith
  few_at k (AtE2 r i w t l) low is busy =
      let few = put_few k r low (put_counts k (AtE2 r i w t l) is busy refl refl refl) in
      omega arith
  few_at k (AtE3 r i w t e) low is busy =
      let few = put_few k r low (put_counts k (AtE3 r i w t e) is busy refl refl refl) in
      let bit = stale_bit c m.cells r t e in
      omega arith
  few_at k (AtE4 r i w t e) low is busy =
      let few = put_few k r low (put_counts k (AtE4 r i w t e) is busy refl refl refl) in
      let bit = stale_bit c m.cells r t e in
      omega arith
  few_at k (AtE5 r i w t) low is busy = let few = get_few r in omega arith
  few_at k (AtE6 r i w t) low is busy = let few = get_few r in omega arith
  few_at k (AtD1 r) low is busy = get_few r
  few_at k (AtD2 r l) low is busy = let few = get_few r in omega arith
  few_at k (AtD3 r h l) low is busy = let few = get_few r in omega arith
  few_at k (AtD4 r h) low is busy = let few = get_few r in omega arith
  few_at k (AtD5 r h e) low is busy = let few = get_few r in let bit = stale_bit c m.cells r h e in
      omega arith
  few_at k (AtD6 r h) low is busy = let few = get_few r in omega arith
  few_at k (AtD7 r h from to) low is busy = let few = catch_few r in let bit = lag_bit r from in
      omega arith
  few_at k (AtD8 r h from) low is busy = let few = catch_few r in omega arith
  few_at k (AtD9 r h from to) low is busy = let few = catch_few r in omega arith
  few_at k (AtD10 r h true) low is busy = let few = get_few r in omega arith
  few_at k (AtD10 r h false) low is busy = let few = get_few r in omega arith

-- a phase is idle or not
pub idle_or : (phase : Phase) → (phase ≡ Idle) ⊎ (phase ≡ Idle → ⊥)
idle_or Idle = inl refl
idle_or phase = inr (λ e. cc)

-- what is left to each seat
abbrev pub left_of : Setup → Machine → ℕ → ℕ
left_of c m k = left_to_seat c m.cells (draws_on c m) (changes_on c m) (m.part k).phase

pub few_left : (c : Setup) (m : Machine) → IsReachable c m → (k : ℕ) → k < c.seats
    → ((m.part k).phase ≡ Idle → ⊥) → left_of c m k < quiet_steps c
few_left c m reachable k low busy = few_at c m reachable k (m.part k).phase low refl busy

pub most_left : (c : Setup) (m : Machine) → IsReachable c m → (k : ℕ) → k < c.seats
    → left_of c m k ≤ quiet_steps c
most_left c m reachable k low =
    elim (idle_or (m.part k).phase) [
      | inl idle ↦ rw idle (omega arith)
      | inr busy ↦ let few = few_left c m reachable k low busy in omega arith
    ]

-- each call has something left
pub some_left : (c : Setup) (m : Cells) (draws bits : ℕ → ℕ) (phase : Phase)
    → 1 ≤ left_to_seat c m draws bits phase
some_left c m draws bits Idle = let some = some_indices c in omega arith
some_left c m draws bits (AtD10 r h true) = omega arith
some_left c m draws bits (AtD10 r h false) = omega arith
some_left c m draws bits phase = omega arith
