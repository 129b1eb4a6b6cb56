-- What a call that ends costs another on its ring. Plan: of a get, its seat may draw one ticket of
-- Head more, and change an entry once more, or has changed one: that is 6 steps at most. Of a call
-- that met Spent nothing. Of a put Threshold is reset: no more than the bound.
use Rattle.std.proofs.Common.{◌≡◌, ℕ, ◌+◌, ◌-◌, ◌*◌, ◌<◌, ◌≤◌, ◌⊎◌, Bool, true, false, ◌&&◌, List, [], ◌∷◌, ◌++◌, refl, sym, ap, inl, inr, arith}
use Rattle.std.specs.Prelude.{◌==◌, nat_lt, nat_le, Some}
use Rattle.std.proofs.lemmas.Bool.{cases_Bool}
use Rattle.scq_word.specs.declared.setup.Setup.{Setup}
use Rattle.scq_word.specs.Exports.{safe_in, cycle_in, is_none_in}
use Rattle.scq_core.specs.declared.ended.Ended.{Ended}
use Rattle.scq_core.specs.declared.ended.Ended.TheVariants.{Done, Got, Nothing, Spent}
use Rattle.scq_core.specs.declared.phase.Phase.{Phase}
use Rattle.scq_core.specs.declared.phase.Phase.TheVariants.{Idle, AtE1, AtE2, AtE3, AtE4, AtE5, AtE6, AtD1, AtD2, AtD3, AtD4, AtD5, AtD6, AtD7, AtD8, AtD9, AtD10}
use Rattle.scq_core.specs.declared.step.Step.{Step}
use Rattle.scq_core.specs.Exports.{Cells, SeatPart, read, beside, ring_slots, cycle, slot, zero_level, reset_level, turn_of, ring_of, location_of}
use Rattle.scq_core.specs.Exports.{after, cells_after, moved, resting, stance_of, IsReachable, Busy, word_at}
use Rattle.scq_core.specs.Machine.{Machine}
use Rattle.scq_core.proofs.UpdatedLemmas.{updated_here}
use Rattle.scq_core.proofs.Turns.{awake}
use Rattle.scq_core.proofs.Counts.{total_updated}
use Rattle.scq_law.proofs.Progress.Potential.{part_after, draw_of, draw_on, change_on, draws_on, changes_on, left_to_seat, Leaves, others_left}
use Rattle.scq_law.proofs.Progress.SeatCounts.{own_draw, own_change, draw_bit}
use Rattle.scq_law.proofs.Progress.TurnEffects.{Effect, quiet}
use Rattle.scq_law.proofs.Progress.QuietTurns.{stale_same, stale_bit, draw_before, change_before, rises}

-- how many units a call costs that ends so, other than by Done: each is 6 steps
abbrev pub is_done : Ended → Bool
is_done (Done r p w) = true
is_done e = false

abbrev pub end_units : Ended → ℕ
end_units (Got r p w) = 1
end_units (Nothing r) = 1
end_units e = 0

-- the last call of two records
pub last_call : (xs : List Ended) (a b : Ended) → xs ++ a ∷ [] ≡ xs ++ b ∷ [] → a ≡ b
last_call [] a b same = cc
last_call (x ∷ xs) a b same = last_call xs a b (cc)

-- what the turn does to its ring, with so many units spare
module _ (c : Setup) (m : Cells) (p : SeatPart) where
  abbrev EndBy : Phase → Type 0
  EndBy turn =
      (e : Ended) → (after c turn (read m (location_of c turn)) (beside m (location_of c turn))
      p).phase ≡ Idle
      → (after c turn (read m (location_of c turn)) (beside m (location_of c turn)) p).calls
      ≡ p.calls ++ e ∷ []
      → (is_done e ≡ true)
      ⊎ Effect m (cells_after c turn m) (ring_of turn) (own_draw turn + end_units e)
      (draw_of (ring_of turn) (after c turn (read m (location_of c turn))
      (beside m (location_of c turn)) p).spent resting) (own_change turn + end_units e) 1

  units_of : (x e : Ended) → p.calls ++ x ∷ [] ≡ p.calls ++ e ∷ [] → end_units e ≡ end_units x
  units_of x e calls = ap end_units (sym (last_call p.calls x e calls))

  end_turn : (turn : Phase) → (turn ≡ Idle → ⊥) → EndBy turn
  end_turn Idle awake = absurd (awake refl)
  end_turn (AtE1 r i w l) awake =
      elim (cases_Bool (nat_le c.limit (m.tail r))) [
        | inl past ↦ rw past (λ e rests calls.
            let units = units_of (Spent r (m.tail r) true) e calls in inr (quiet (λ s. refl) (omega arith) (omega arith) (omega arith)))
        | inr under ↦ rw under (λ e rests calls. absurd (cc))
      ]
  end_turn (AtE2 r i w t l) awake =
      let x = word_at c m r t in
      elim (cases_Bool (nat_lt (cycle_in (ring_slots c) x) (cycle c t) && is_none_in (ring_slots c)
      x)) [
        | inl fits ↦
            elim (cases_Bool (safe_in (ring_slots c) x == 1))
            [ inl safe ↦ rw (fits, safe) (λ e rests calls. absurd (cc)) | inr unsafe ↦ rw (fits, unsafe) (λ e rests calls. absurd (cc)) ]
        | inr fails ↦ rw fails (λ e rests calls. absurd (cc))
      ]
  end_turn (AtE3 r i w t v) awake =
      elim (cases_Bool (nat_le (m.head r) t)) [
        | inl low ↦ rw low (λ e rests calls. absurd (cc))
        | inr fails ↦ rw fails (λ e rests calls. absurd (cc))
      ]
  end_turn (AtE4 r i w t v) awake =
      elim (cases_Bool (word_at c m r t == v)) [
        | inl hit ↦ rw hit (λ e rests calls. absurd (cc))
        | inr miss ↦ rw miss (λ e rests calls. absurd (cc))
      ]
  end_turn (AtE5 r i w t) awake =
      elim (cases_Bool (m.threshold r == reset_level c)) [
        | inl high ↦ rw high (λ e rests calls. inl
            (ap is_done (sym (last_call p.calls (Done r t w) e calls))))
        | inr low ↦ rw low (λ e rests calls. absurd (cc))
      ]
  end_turn (AtE6 r i w t) awake =
      λ e rests calls. inl (ap is_done (sym (last_call p.calls (Done r t w) e calls)))
  end_turn (AtD1 r) awake =
      let same = updated_here m.threshold r (m.threshold r) in
      elim (cases_Bool (nat_lt (m.threshold r) zero_level)) [
        | inl low ↦ rw low (λ e rests calls.
            let units = units_of (Nothing r) e calls in let bit = draw_bit r p.spent resting in inr (quiet (λ s. refl) (omega arith) (omega arith) (omega arith)))
        | inr high ↦ rw high (λ e rests calls. absurd (cc))
      ]
  end_turn (AtD2 r l) awake =
      let next = updated_here m.head r (m.head r + 1) in
      elim (cases_Bool (nat_le c.limit (m.head r))) [
        | inl past ↦ rw past (λ e rests calls.
            let units = units_of (Spent r (m.head r) false) e calls in inr (quiet (λ s. refl) (omega arith) (omega arith) (omega arith)))
        | inr under ↦ rw under (λ e rests calls. absurd (cc))
      ]
  end_turn (AtD3 r h l) awake =
      let x = word_at c m r h in
      elim (cases_Bool (cycle_in (ring_slots c) x == cycle c h)) [
        | inl same ↦ rw same (λ e rests calls. absurd (cc))
        | inr other ↦
            elim (cases_Bool (nat_lt (cycle_in (ring_slots c) x) (cycle c h))) [
              | inl lower ↦ rw (other, lower) (λ e rests calls. absurd (cc))
              | inr higher ↦ rw (other, higher) (λ e rests calls. absurd (cc))
            ]
      ]
  end_turn (AtD4 r h) awake =
      λ e rests calls.
      let units : end_units e ≡ 1 =
      ap end_units (sym (last_call p.calls (Got r h (m.entries.content r (slot c h))) e
      calls)) in
      let bit = draw_bit r p.spent resting in
      inr (record { ends = omega arith; level = omega arith; entries = inr (omega arith) })
  end_turn (AtD5 r h v) awake =
      elim (cases_Bool (word_at c m r h == v)) [
        | inl hit ↦ rw hit (λ e rests calls. absurd (cc))
        | inr miss ↦ rw miss (λ e rests calls. absurd (cc))
      ]
  end_turn (AtD6 r h) awake =
      elim (cases_Bool (nat_le (m.tail r) (h + 1))) [
        | inl low ↦ rw low (λ e rests calls. absurd (cc))
        | inr high ↦ rw high (λ e rests calls. absurd (cc))
      ]
  end_turn (AtD7 r h from to) awake =
      elim (cases_Bool (m.tail r == from)) [
        | inl hit ↦ rw hit (λ e rests calls. absurd (cc))
        | inr miss ↦ rw miss (λ e rests calls. absurd (cc))
      ]
  end_turn (AtD8 r h from) awake = λ e rests calls. absurd (cc)
  end_turn (AtD9 r h from to) awake =
      elim (cases_Bool (nat_le to (m.tail r))) [
        | inl caught ↦ rw caught (λ e rests calls. absurd (cc))
        | inr under ↦ rw under (λ e rests calls. absurd (cc))
      ]
  end_turn (AtD10 r h true) awake =
      let less = updated_here m.threshold r (m.threshold r - 1) in
      λ e rests calls.
      let units = units_of (Nothing r) e calls in
      let bit = draw_bit r p.spent resting in
      inr (quiet (λ s. refl) (omega arith) (omega arith) (omega arith))
  end_turn (AtD10 r h false) awake =
      let less = updated_here m.threshold r (m.threshold r - 1) in
      elim (cases_Bool (nat_le (m.threshold r) zero_level)) [
        | inl low ↦ rw low (λ e rests calls.
            let units = units_of (Nothing r) e calls in let bit = draw_bit r p.spent resting in inr (quiet (λ s. refl) (omega arith) (omega arith) (omega arith)))
        | inr high ↦ rw high (λ e rests calls. absurd (cc))
      ]

-- a step of seat j that ends its call so: another call on the turn's ring has no more left than 6
-- for each unit, unless it ends with Done
module _ (c : Setup) (m : Machine) (j : ℕ) (s : Step) (turn : Phase) (low : j < c.seats)
    (reachable : IsReachable c m) (enabled : turn_of c (m.part j) s ≡ Some turn) where
  abbrev part_then : SeatPart
  part_then = part_after c m j turn

  left_by_end : (e : Ended) → part_then.phase ≡ Idle → part_then.calls ≡ (m.part j).calls ++ e ∷ []
      → (is_done e ≡ true)
      ⊎ Leaves (end_units e) c m.cells (cells_after c turn m.cells) (draws_on c m) (changes_on c m)
      (draws_on c (moved c m j turn)) (changes_on c (moved c m j turn)) (ring_of turn)
  left_by_end e rests calls =
      let r = ring_of turn in
      let n = cells_after c turn m.cells in
      elim (end_turn c m.cells (m.part j) turn
      (awake c (m.part j).hand (m.part j).spent (m.part j).phase s turn enabled) e rests
      calls) [
        | inl done ↦ inl done
        | inr effect ↦
            let draws = total_updated (λ (p : SeatPart). draw_on r p) m.part j part_then c.seats low in
            let draw_was = draw_before c m j s turn low reachable enabled in
            let draw_now : draw_on r part_then ≡ draw_of r part_then.spent resting =
            ap (λ (v : Phase). draw_of r part_then.spent (stance_of v)) rests in
            let bits = total_updated (λ (p : SeatPart). change_on r p) m.part j part_then c.seats low in
            let bit_was = change_before c m j s turn low reachable enabled in
            let bit_now : change_on r part_then ≡ 1 = rw rests refl in
            let ends = effect.ends in
            inr
            (record {
              ends = omega arith;
              tail = (rises c m j s turn low reachable enabled).tail r;
              level = effect.level;
              change = elim effect.entries
                  [ inl same ↦ let less = same.1 in omega arith | inr less ↦ omega arith ];
              looks =
                  λ t v.
                  elim effect.entries [
                    | inl same ↦
                        let less = same.1 in
                        let word = stale_same c m.cells n r same.0 t v in
                        omega arith
                    | inr less ↦ let bit = stale_bit c n r t v in omega arith
                  ];
            })
      ]

  pub end_left : (e : Ended) (hand : List ℕ) (phase : Phase) → Busy c m.cells hand phase
      → ring_of phase ≡ ring_of turn → part_then.phase ≡ Idle
      → part_then.calls ≡ (m.part j).calls ++ e ∷ []
      → (is_done e ≡ true)
      ⊎ (left_to_seat c (cells_after c turn m.cells) (draws_on c (moved c m j turn))
      (changes_on c (moved c m j turn)) phase
      ≤ left_to_seat c m.cells (draws_on c m) (changes_on c m) phase + 6 * end_units e)
  end_left e hand phase busy ring rests calls =
      elim (left_by_end e rests calls) [
        | inl done ↦ inl done
        | inr more ↦
            inr
            (others_left (end_units e) c m.cells (cells_after c turn m.cells) (draws_on c m)
            (changes_on c m) (draws_on c (moved c m j turn)) (changes_on c (moved c m j turn)) hand
            phase busy (rw ring more))
      ]
