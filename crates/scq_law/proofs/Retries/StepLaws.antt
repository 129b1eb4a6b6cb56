-- In a run a seat makes only so many steps for each of its calls. Plan: give a part as many steps as its ended calls and the
-- one under way may have taken, by what is left to it; each step of the seat raises that number.
use Rattle.std.proofs.Common.{◌≡◌, ℕ, ◌+◌, ◌-◌, ◌*◌, ◌<◌, ◌≤◌, true, false, ◌&&◌, List, [], ◌∷◌, ◌++◌, length, length-append, refl, sym, ap, ◌∙◌, inl, inr, arith, eq-eqb, ne_eqb}
use Rattle.std.specs.Prelude.{◌==◌, nat_lt, nat_le, if◌then◌else◌, Some}
use Rattle.std.specs.List.{All}
use Rattle.std.proofs.lemmas.List.Elements.{All-head, All-tail}
use Rattle.std.proofs.lemmas.List.Sums.{sum_by-append}
use Rattle.scq_word.specs.declared.setup.Setup.{Setup}
use Rattle.scq_word.specs.Exports.{safe_in, cycle_in, is_none_in}
use Rattle.scq_core.specs.declared.ended.Ended.{Ended}
use Rattle.scq_core.specs.declared.phase.Phase.{Phase}
use Rattle.scq_core.specs.declared.phase.Phase.TheVariants.{Idle, AtE1, AtE2, AtE3, AtE4, AtE5, AtE6, AtD1, AtD2, AtD3, AtD4, AtD5, AtD6, AtD7, AtD8, AtD9, AtD10}
use Rattle.scq_core.specs.declared.step.Step.{Step}
use Rattle.scq_core.specs.Exports.{SeatPart, read, beside, ring_slots, cycle, zero_level, reset_level, turn_of, location_of, after, IsReachable}
use Rattle.scq_core.specs.Exports.{at_start}
use Rattle.scq_core.specs.Machine.{Machine}
use Rattle.scq_core.proofs.UpdatedLemmas.{updated_or}
use Rattle.scq_core.proofs.Steady.{either_way}
use Rattle.scq_core.proofs.Turns.{begins, awake}
use Rattle.scq_law.specs.Exports.{Recorded, recorded_after, recorded_by, recorded_first, recorded_along, IsRun, call_steps, steps_left, steps_of}
use Rattle.scq_law.specs.Exports.{CallsEnd, FewSteps}
use Rattle.scq_law.proofs.Retries.CallLaws.{calls_end}
use Rattle.scq_law.proofs.Replays.RecordedRuns.{chained, recorded_step, turn_reaches}

-- a seat is at rest after its turn, with one call more, or it goes on
pub data After (p q : SeatPart) : Type 0 where
  rests : q.phase ≡ Idle → length q.calls ≡ length p.calls + 1 → After p q
  goes : (q.phase ≡ Idle → ⊥) → length q.calls ≡ length p.calls → After p q

module _ (c : Setup) (x : ℕ) (y : List ℕ) (p : SeatPart) where
  ended : (e : Ended) → length (p.calls ++ e ∷ []) ≡ length p.calls + 1
  ended e = length-append p.calls (e ∷ [])

  pub after_turn : (turn : Phase) → (turn ≡ Idle → ⊥) → After p (after c turn x y p)
  after_turn Idle awake = absurd (awake refl)
  after_turn (AtE1 q i w l) awake = either_way (After p) (nat_le c.limit x) _ _ (rests refl (ended _)) (goes (λ is. cc) refl)
  after_turn (AtE2 q i w t l) awake =
      either_way (After p) (nat_lt (cycle_in (ring_slots c) x) (cycle c t) && is_none_in (ring_slots c) x) _ _
      (either_way (After p) (safe_in (ring_slots c) x == 1) _ _ (goes (λ is. cc) refl) (goes (λ is. cc) refl))
      (goes (λ is. cc) refl)
  after_turn (AtE3 q i w t e) awake = either_way (After p) (nat_le x t) _ _ (goes (λ is. cc) refl) (goes (λ is. cc) refl)
  after_turn (AtE4 q i w t e) awake = either_way (After p) (x == e) _ _ (goes (λ is. cc) refl) (goes (λ is. cc) refl)
  after_turn (AtE5 q i w t) awake = either_way (After p) (x == reset_level c) _ _ (rests refl (ended _)) (goes (λ is. cc) refl)
  after_turn (AtE6 q i w t) awake = rests refl (ended _)
  after_turn (AtD1 q) awake = either_way (After p) (nat_lt x zero_level) _ _ (rests refl (ended _)) (goes (λ is. cc) refl)
  after_turn (AtD2 q l) awake = either_way (After p) (nat_le c.limit x) _ _ (rests refl (ended _)) (goes (λ is. cc) refl)
  after_turn (AtD3 q h l) awake =
      either_way (After p) (cycle_in (ring_slots c) x == cycle c h) _ _
      (goes (λ is. cc) refl)
      (either_way (After p) (nat_lt (cycle_in (ring_slots c) x) (cycle c h)) _ _ (goes (λ is. cc) refl) (goes (λ is. cc) refl))
  after_turn (AtD4 q h) awake = rests refl (ended _)
  after_turn (AtD5 q h e) awake = either_way (After p) (x == e) _ _ (goes (λ is. cc) refl) (goes (λ is. cc) refl)
  after_turn (AtD6 q h) awake = either_way (After p) (nat_le x (h + 1)) _ _ (goes (λ is. cc) refl) (goes (λ is. cc) refl)
  after_turn (AtD7 q h from to) awake = either_way (After p) (x == from) _ _ (goes (λ is. cc) refl) (goes (λ is. cc) refl)
  after_turn (AtD8 q h from) awake = goes (λ is. cc) refl
  after_turn (AtD9 q h from to) awake = either_way (After p) (nat_le to x) _ _ (goes (λ is. cc) refl) (goes (λ is. cc) refl)
  after_turn (AtD10 q h true) awake = rests refl (ended _)
  after_turn (AtD10 q h false) awake = either_way (After p) (nat_le x zero_level) _ _ (rests refl (ended _)) (goes (λ is. cc) refl)

-- one step before the others
pub steps-first : (k : ℕ) (x : ℕ × Step) (xs : List (ℕ × Step)) → steps_of k (x ∷ xs) ≡ (if x.0 == k then 1 else 0) + steps_of k xs
steps-first k x xs = let sum = sum_by-append (λ (z : ℕ × Step). if z.0 == k then 1 else 0) (x ∷ []) xs in omega arith

module _ (c : Setup) where
  -- the most steps of a call
  abbrev pub most : ℕ
  most = call_steps c

  -- the steps that the call under way may have taken
  abbrev pub steps_taken : Phase → ℕ
  steps_taken Idle = 0
  steps_taken phase = most - steps_left c phase

  taken_on : (phase : Phase) → (phase ≡ Idle → ⊥) → steps_taken phase ≡ most - steps_left c phase
  taken_on Idle awake = absurd (awake refl)
  taken_on phase awake = refl

  -- the steps that a seat may have made
  abbrev pub steps_made : SeatPart → ℕ
  steps_made p = length p.calls * most + steps_taken p.phase

  -- at its turn a seat has made no more than what is left to the turn says
  made_before : (p : SeatPart) (s : Step) (turn : Phase) → turn_of c p s ≡ Some turn → steps_made p ≤ length p.calls * most + (most - steps_left c turn)
  made_before p s turn enabled =
      elim (begins c p.hand p.spent p.phase s turn enabled) [
        | inl same ↦
            let is = taken_on p.phase (λ idle. awake c p.hand p.spent p.phase s turn enabled (same ∙ idle)) in
            let left : steps_left c turn ≡ steps_left c p.phase = ap (steps_left c) same in
            omega arith
        | inr new ↦ let none : steps_taken p.phase ≡ 0 = ap steps_taken new.0 in omega arith
      ]

  -- and one more after it
  made_after : (p q : SeatPart) (turn : Phase) → steps_left c turn ≤ most → steps_left c q.phase < steps_left c turn → After p q
      → length p.calls * most + (most - steps_left c turn) + 1 ≤ steps_made q
  made_after p q turn few fewer (rests idle calls) =
      let none : steps_taken q.phase ≡ 0 = ap steps_taken idle in
      let sum : length q.calls * most ≡ length p.calls * most + most = rw calls (one_more (length p.calls) most) in
      omega arith
    where
      one_more : (d x : ℕ) → (d + 1) * x ≡ d * x + x
      one_more d x = grind arith
  made_after p q turn few fewer (goes on calls) =
      let is = taken_on q.phase on in
      let same : length q.calls * most ≡ length p.calls * most = ap (λ (n : ℕ). n * most) calls in
      omega arith

  made_turn : (m : Machine) (k : ℕ) (s : Step) (turn : Phase) → CallsEnd c m → turn_of c (m.part k) s ≡ Some turn
      → steps_made (m.part k) + 1 ≤ steps_made (after c turn (read m.cells (location_of c turn)) (beside m.cells (location_of c turn)) (m.part k))
  made_turn m k s turn ends enabled =
      let p = m.part k in
      let x = read m.cells (location_of c turn) in
      let y = beside m.cells (location_of c turn) in
      let before = made_before p s turn enabled in
      let step = after_turn c x y p turn (awake c p.hand p.spent p.phase s turn enabled) in
      let later = made_after p (after c turn x y p) turn (ends.most turn) (ends.fewer k s turn enabled) step in
      omega arith

  -- a step of some seat
  pub made_step : (r : Recorded) (k j : ℕ) (s : Step) (turn : Phase) → IsReachable c r.state → turn_of c (r.state.part j) s ≡ Some turn
      → steps_made (r.state.part k) + (if j == k then 1 else 0) ≤ steps_made ((recorded_after c j turn r).state.part k)
  made_step r k j s turn reach enabled =
      let m = r.state in
      let p = after c turn (read m.cells (location_of c turn)) (beside m.cells (location_of c turn)) (m.part j) in
      elim (updated_or m.part j p k) [
        | inl here ↦
            let own = made_turn m j s turn (calls_end c m reach) enabled in
            let new : steps_made ((recorded_after c j turn r).state.part k) ≡ steps_made p = ap steps_made here.1 in
            let old : steps_made (m.part k) ≡ steps_made (m.part j) = ap (λ (i : ℕ). steps_made (m.part i)) here.0 in
            rw (eq-eqb j k (sym here.0)) (omega arith)
        | inr there ↦
            let same : steps_made ((recorded_after c j turn r).state.part k) ≡ steps_made (m.part k) = ap steps_made there.1 in
            rw (ne_eqb j k (λ e. there.0 (sym e))) (omega arith)
      ]

  made_along : (k : ℕ) (steps : List (ℕ × Step)) (r last : Recorded) → All (λ (x : ℕ × Step). x.0 < c.seats) steps → IsReachable c r.state
      → recorded_along c r steps ≡ Some last → steps_made (r.state.part k) + steps_of k steps ≤ steps_made (last.state.part k)
  made_along k [] r last seats reach e = let same : r ≡ last = cc in rw (← same) (omega arith)
  made_along k (x ∷ xs) r last seats reach e =
      let h = chained (λ next. recorded_along c next xs) (recorded_by c r x) last e in
      let t = recorded_step c r x h.0 h.1 in
      let low = All-head (λ (y : ℕ × Step). y.0 < c.seats) x xs seats in
      let rest_low = All-tail (λ (y : ℕ × Step). y.0 < c.seats) x xs seats in
      let step = made_step r k x.0 x.1 t.turn reach t.enabled in
      let next_reach : IsReachable c h.0.state = rw t.is (turn_reaches c r.state x.0 x.1 t.turn low t.enabled reach) in
      let next : steps_made (h.0.state.part k) ≡ steps_made ((recorded_after c x.0 t.turn r).state.part k) = ap (λ (z : Recorded). steps_made (z.state.part k)) t.is in
      let rest = made_along k xs h.0 last rest_low next_reach h.2 in
      let first = steps-first k x xs in
      omega arith

pub few_steps : (c : Setup) (opening : List (List ℕ)) (steps : List (ℕ × Step)) (recorded : Recorded)
    → IsRun c opening steps recorded → FewSteps c steps recorded.state
few_steps c opening steps recorded run =
    record {
      few =
          λ k.
          let along = made_along c k steps (recorded_first c opening) recorded run.seats (at_start opening run.full) run.recorded_is in
          let last = taken_few c (recorded.state.part k).phase in
          let sum = more c (length (recorded.state.part k).calls) in
          omega arith;
    }
  where
    taken_few : (c : Setup) (phase : Phase) → steps_taken c phase ≤ most c
    taken_few c Idle = omega arith
    taken_few c phase = omega arith

    more : (c : Setup) (calls : ℕ) → (calls + 1) * most c ≡ calls * most c + most c
    more c calls = grind arith
