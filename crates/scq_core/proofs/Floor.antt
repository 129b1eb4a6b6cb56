-- Threshold stays within its floor and ceiling. Plan: each turn either leaves Threshold at 0 or above, or lowers it by
-- no more than the dequeue that it ends.
use Rattle.std.proofs.Common.{◌≡◌, ℕ, ◌+◌, ◌-◌, ◌<◌, ◌≤◌, ◌⊎◌, Bool, true, false, ◌&&◌, List, refl, sym, inl, inr, arith, ltb-false, eq-eqb, ne_eqb}
use Rattle.std.specs.Prelude.{◌==◌, if◌then◌else◌, nat_lt, nat_le, Some}
use Rattle.std.proofs.lemmas.Bool.{cond_both, leb-false}
use Rattle.scq_word.specs.declared.setup.Setup.{Setup}
use Rattle.scq_word.specs.Exports.{safe_in, cycle_in, is_none_in}
use Rattle.scq_core.specs.declared.phase.Phase.{Phase}
use Rattle.scq_core.specs.declared.phase.Phase.TheVariants.{Idle, AtE1, AtE2, AtE3, AtE4, AtE5, AtE6, AtD1, AtD2, AtD3, AtD4, AtD5, AtD6, AtD7, AtD8, AtD9, AtD10}
use Rattle.scq_core.specs.declared.step.Step.{Step}
use Rattle.scq_core.specs.Exports.{updated, Cells, SeatPart, read, beside, ring_slots, cycle, zero_level, reset_level, turn_of, location_of, after}
use Rattle.scq_core.specs.Exports.{cells_after, moved, start_of, stance_of, entered_ring, IsReachable, at_start, by_step, word_at, dequeues}
use Rattle.scq_core.specs.Exports.{dequeues_of, ThresholdFloor}
use Rattle.scq_core.specs.Machine.{Machine}
use Rattle.scq_core.proofs.UpdatedLemmas.{updated_or, updated_cases}
use Rattle.scq_core.proofs.Turns.{turned, Begins, begins_put, begins_get, begins, awake}
use Rattle.scq_core.proofs.Entries.{zero_level_is, some_seats}
use Rattle.scq_core.proofs.Steady.{either_way}
use Rattle.scq_core.proofs.Counts.{total_updated, total_few, total_none, one_on_bit}

dequeues_begun : (c : Setup) (hand : List ℕ) (r : ℕ) (turn : Phase) → Begins c hand turn → dequeues r turn ≡ 0
dequeues_begun c hand r turn (begins_put q i w low small held) = refl
dequeues_begun c hand r turn (begins_get q low) = refl

-- an enabled turn counts as its seat's phase
pub dequeues_turn : (c : Setup) (p : SeatPart) (s : Step) (turn : Phase) (r : ℕ) → turn_of c p s ≡ Some turn → dequeues r turn ≡ dequeues r p.phase
dequeues_turn c p s turn r e =
    elim (begins c p.hand p.spent p.phase s turn e) [
      | inl same ↦ rw same refl
      | inr new ↦ rw new.0 (dequeues_begun c p.hand r turn new.2)
    ]

-- the phase of a seat after its turn
abbrev phase_then : Setup → Cells → SeatPart → Phase → Phase
phase_then c m p turn = (after c turn (read m (location_of c turn)) (beside m (location_of c turn)) p).phase

-- what a turn does to a ring's Threshold and dequeues: it ends at 0 or above, or falls by no more than the seat counts less
pub record Falls (level before later was now : ℕ) : Type 0 where
  pub falls : (level ≤ later) ⊎ (before + now ≤ later + was)

-- a word that is only read, and a count that does not grow
same_falls : (level x was now : ℕ) → now ≤ was → Falls level x x was now
same_falls level x was now le = record { falls = inr (omega arith) }

-- a Threshold that is only read
read_falls : (m : Cells) (q r was now : ℕ) → now ≤ was → Falls zero_level (m.threshold r) (updated m.threshold q (m.threshold q) r) was now
read_falls m q r was now le =
    elim (updated_or m.threshold q (m.threshold q) r) [
      | inl here ↦ rw here.1 (rw here.0 (record { falls = inr (omega arith) }))
      | inr there ↦ rw there.1 (record { falls = inr (omega arith) })
    ]

-- what holds of the part of either branch
to_part : (r b : ℕ) (t : Bool) (x y : SeatPart) → dequeues r x.phase ≤ b → dequeues r y.phase ≤ b → dequeues r (if t then x else y).phase ≤ b
to_part r b t x y left right = either_way (λ (v : SeatPart). dequeues r v.phase ≤ b) t x y left right

-- a Threshold that falls by one where a dequeue of its ring ends
ending_falls : (m : Cells) (q h r : ℕ) (leaving : Bool)
    → Falls zero_level (m.threshold r) (updated m.threshold q (m.threshold q - 1) r) (dequeues r (AtD10 q h leaving)) 0
ending_falls m q h r leaving =
    elim (updated_or m.threshold q (m.threshold q - 1) r) [
      | inl here ↦
          let one : dequeues r (AtD10 q h leaving) ≡ 1 = rw (eq-eqb q r (sym here.0)) refl in
          rw here.1 (rw here.0 (record { falls = inr (let e : dequeues q (AtD10 q h leaving) ≡ 1 = rw here.0 at one in omega arith) }))
      | inr there ↦ rw there.1 (record { falls = inr (omega arith) })
    ]

-- a dequeue that goes past D1, where Threshold is at 0 or above
passing_falls : (m : Cells) (q r l : ℕ) → zero_level ≤ m.threshold q
    → Falls zero_level (m.threshold r) (updated m.threshold q (m.threshold q) r) 0 (dequeues r (AtD2 q l))
passing_falls m q r l high =
    elim (updated_or m.threshold q (m.threshold q) r) [
      | inl here ↦ rw here.1 (record { falls = inl high })
      | inr there ↦
          let none : dequeues r (AtD2 q l) ≡ 0 = rw (ne_eqb q r (λ e. there.0 (sym e))) refl in
          rw there.1 (record { falls = inr (omega arith) })
    ]

-- one that goes on, where Threshold was above 0
staying_falls : (m : Cells) (q h r l : ℕ) (leaving : Bool) → zero_level < m.threshold q
    → Falls zero_level (m.threshold r) (updated m.threshold q (m.threshold q - 1) r) (dequeues r (AtD10 q h leaving)) (dequeues r (AtD2 q l))
staying_falls m q h r l leaving high =
    elim (updated_or m.threshold q (m.threshold q - 1) r) [
      | inl here ↦ rw here.1 (record { falls = inl (omega arith) })
      | inr there ↦ rw there.1 (record { falls = inr (omega arith) })
    ]

-- each turn's effect
falls_turn : (c : Setup) (m : Cells) (p : SeatPart) (turn : Phase) (r : ℕ) → (turn ≡ Idle → ⊥)
    → Falls zero_level (m.threshold r) ((cells_after c turn m).threshold r) (dequeues r turn) (dequeues r (phase_then c m p turn))
falls_turn c m p Idle r awake = absurd (awake refl)
falls_turn c m p (AtE1 q i w l) r awake = same_falls _ _ _ _ (to_part r 0 (nat_le c.limit (m.tail q)) _ _ (omega arith) (omega arith))
falls_turn c m p (AtE2 q i w t l) r awake =
    let x = word_at c m q t in
    same_falls
    _
    _
    _
    _
    (to_part r 0 (nat_lt (cycle_in (ring_slots c) x) (cycle c t) && is_none_in (ring_slots c) x) _ _
    (to_part r 0 (safe_in (ring_slots c) x == 1) _ _ (omega arith) (omega arith)) (omega arith))
falls_turn c m p (AtE3 q i w t e) r awake = same_falls _ _ _ _ (to_part r 0 (nat_le (m.head q) t) _ _ (omega arith) (omega arith))
falls_turn c m p (AtE4 q i w t e) r awake = same_falls _ _ _ _ (to_part r 0 (word_at c m q t == e) _ _ (omega arith) (omega arith))
falls_turn c m p (AtE5 q i w t) r awake =
    read_falls m q r _ _ (to_part r 0 (m.threshold q == reset_level c) _ _ (omega arith) (omega arith))
falls_turn c m p (AtE6 q i w t) r awake =
    elim (updated_or m.threshold q (reset_level c) r) [
      | inl here ↦ rw here.1 (record { falls = inl (omega arith) })
      | inr there ↦ rw there.1 (record { falls = inr (omega arith) })
    ]
falls_turn c m p (AtD1 q) r awake =
    cond_both
    (nat_lt (m.threshold q) zero_level)
    _
    _
    (λ (v : SeatPart). Falls zero_level (m.threshold r) (updated m.threshold q (m.threshold q) r) 0 (dequeues r v.phase))
    (λ _. read_falls m q r 0 0 (omega arith))
    (λ high. passing_falls m q r 0 (ltb-false _ _ high))
falls_turn c m p (AtD2 q l) r awake =
    same_falls _ _ _ _ (to_part r (dequeues r (AtD2 q l)) (nat_le c.limit (m.head q)) _ _ (omega arith) (omega arith))
falls_turn c m p (AtD3 q h l) r awake =
    let x = word_at c m q h in
    same_falls
    _
    _
    _
    _
    (to_part r (dequeues r (AtD3 q h l)) (cycle_in (ring_slots c) x == cycle c h) _ _ (omega arith)
    (to_part r (dequeues r (AtD3 q h l)) (nat_lt (cycle_in (ring_slots c) x) (cycle c h)) _ _ (omega arith) (omega arith)))
falls_turn c m p (AtD4 q h) r awake = same_falls _ _ _ _ (omega arith)
falls_turn c m p (AtD5 q h e) r awake =
    same_falls _ _ _ _ (to_part r (dequeues r (AtD5 q h e)) (word_at c m q h == e) _ _ (omega arith) (omega arith))
falls_turn c m p (AtD6 q h) r awake =
    same_falls _ _ _ _ (to_part r (dequeues r (AtD6 q h)) (nat_le (m.tail q) (h + 1)) _ _ (omega arith) (omega arith))
falls_turn c m p (AtD7 q h from to) r awake =
    same_falls _ _ _ _ (to_part r (dequeues r (AtD7 q h from to)) (m.tail q == from) _ _ (omega arith) (omega arith))
falls_turn c m p (AtD8 q h from) r awake = same_falls _ _ _ _ (omega arith)
falls_turn c m p (AtD9 q h from to) r awake =
    same_falls _ _ _ _ (to_part r (dequeues r (AtD9 q h from to)) (nat_le to (m.tail q)) _ _ (omega arith) (omega arith))
falls_turn c m p (AtD10 q h true) r awake = ending_falls m q h r true
falls_turn c m p (AtD10 q h false) r awake =
    cond_both
    (nat_le (m.threshold q) zero_level)
    _
    _
    (λ (v : SeatPart). Falls zero_level (m.threshold r) (updated m.threshold q (m.threshold q - 1) r) (dequeues r (AtD10 q h false)) (dequeues r v.phase))
    (λ _. ending_falls m q h r false)
    (λ high. staying_falls m q h r (h + 1) false (leb-false _ _ high))

-- no turn lifts Threshold above what a reset sets
ceiling_turn : (c : Setup) (m : Cells) (turn : Phase) → ((r : ℕ) → m.threshold r ≤ reset_level c) → (r : ℕ) → (cells_after c turn m).threshold r ≤ reset_level c
ceiling_turn c m (AtE5 q i w t) low r = updated_cases (λ (a v : ℕ). v ≤ reset_level c) m.threshold q _ r (λ _. low q) (λ _. low r)
ceiling_turn c m (AtE6 q i w t) low r = updated_cases (λ (a v : ℕ). v ≤ reset_level c) m.threshold q _ r (λ _. omega arith) (λ _. low r)
ceiling_turn c m (AtD1 q) low r = updated_cases (λ (a v : ℕ). v ≤ reset_level c) m.threshold q _ r (λ _. low q) (λ _. low r)
ceiling_turn c m (AtD10 q h leaving) low r =
    updated_cases (λ (a v : ℕ). v ≤ reset_level c) m.threshold q _ r (λ _. let le = low q in omega arith) (λ _. low r)
ceiling_turn c m turn low r = low r

-- a turn keeps floor and ceiling
floor_turn : (c : Setup) (m : Machine) (k : ℕ) (s : Step) (turn : Phase) → k < c.seats → turn_of c (m.part k) s ≡ Some turn → ThresholdFloor c m
    → ThresholdFloor c (moved c m k turn)
floor_turn c m k s turn low e was =
    let p = m.part k in
    let x = read m.cells (location_of c turn) in
    let y = beside m.cells (location_of c turn) in
    record {
      floor =
          λ r.
          let sum = total_updated (λ (q : SeatPart). dequeues r q.phase) m.part k (after c turn x y p) c.seats low in
          let few = total_few (λ (q : SeatPart). dequeues r q.phase) (moved c m k turn).part (λ q. one_on_bit r (entered_ring (stance_of q.phase))) c.seats in
          let floor = was.floor r in
          let counted = dequeues_turn c p s turn r e in
          let effect = falls_turn c m.cells p turn r (awake c p.hand p.spent p.phase s turn e) in
          elim effect.falls [ inl high ↦ omega arith | inr fell ↦ omega arith ];
      ceiling = ceiling_turn c m.cells turn was.ceiling;
    }

floor_start : (c : Setup) (opening : List (List ℕ)) → ThresholdFloor c (start_of c opening)
floor_start c opening =
    let seats = some_seats c in
    let level = zero_level_is in
    record {
      floor =
          λ r.
          let none = total_none (λ (q : SeatPart). dequeues r q.phase) (start_of c opening).part c.seats (λ k low. refl) in
          either_way
          (λ (v : ℕ). zero_level + dequeues_of c (start_of c opening) r ≤ v + c.seats)
          (r == 0)
          (reset_level c)
          (zero_level - 1)
          (omega arith)
          (omega arith);
      ceiling =
          λ r. either_way (λ (v : ℕ). v ≤ reset_level c) (r == 0) (reset_level c) (zero_level - 1) (omega arith) (omega arith);
    }

-- on each reachable state Threshold is no lower than the seats allow, and no higher than a reset sets it
pub threshold_floor : (c : Setup) (m : Machine) → IsReachable c m → ThresholdFloor c m
threshold_floor c m (at_start opening full) = floor_start c opening
threshold_floor c m (by_step {m = b} seat step reach low e) =
    let t = turned c b seat step m e in
    rw t.next (floor_turn c b seat step t.turn low t.enabled (threshold_floor c b reach))
