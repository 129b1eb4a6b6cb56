-- A step is a turn: the seat's phase, or the first step of a call that it begins.
use Rattle.std.proofs.Common.{◌≡◌, ℕ, ◌<◌, true, ◌&&◌, ◌⊎◌, inl, inr, List, ltb-true, refl, ap, ◌∙◌}
use Rattle.std.specs.Prelude.{Option, Some, None, is_some, unwrap_or, nat_lt}
use Rattle.std.specs.Option.{option_map}
use Rattle.std.proofs.lemmas.Bool.{cases_Bool, and_parts}
use Rattle.scq_word.specs.declared.setup.Setup.{Setup}
use Rattle.scq_word.specs.Exports.{n_of}
use Rattle.scq_core.specs.declared.phase.Phase.{Phase}
use Rattle.scq_core.specs.declared.phase.Phase.TheVariants.{Idle, AtE1, AtE2, AtE3, AtE4, AtE5, AtE6, AtD1, AtD2, AtD3, AtD4, AtD5, AtD6, AtD7, AtD8, AtD9, AtD10}
use Rattle.scq_core.specs.declared.step.Step.{Step}
use Rattle.scq_core.specs.declared.step.Step.TheVariants.{E1, E1Again, E2, E3, E4, E5, E6, D1, D2, D3, D4, D5, D6, D7, D8, D9, D10}
use Rattle.scq_core.specs.Machine.{Machine}
use Rattle.scq_core.specs.Exports.{turn_at, turn_of, next_step, moved, step_of, holds_index, started}

-- the turn that a step is: it is enabled, and the state afterwards is the one that it makes
pub record IsTurnOf (c : Setup) (m : Machine) (k : ℕ) (s : Step) (m' : Machine) : Type 0 where
  pub turn : Phase
  pub enabled : turn_of c (m.part k) s ≡ Some turn
  pub next : m' ≡ moved c m k turn

mapped : {A B : Type 0} → (f : A → B) (o : Option A) (b : B) → option_map f o ≡ Some b → (a : A) × (o ≡ Some a) × (b ≡ f a)
mapped f None b e = absurd (cc)
mapped f (Some a) b e = (a, refl, cc)

pub turned : (c : Setup) (m : Machine) (k : ℕ) (s : Step) (m' : Machine) → step_of c m k s ≡ Some m' → IsTurnOf c m k s m'
turned c m k s m' e =
    let h = mapped (moved c m k) (turn_of c (m.part k) s) m' e in
    record { turn = h.0; enabled = h.1; next = h.2 }

-- how the turn of an enabled step comes about: it begins a call of an idle seat that keeps no ticket, or it is the seat's phase
pub data Enables (c : Setup) (hand : List ℕ) : Option ℕ → Phase → Step → Phase → Type 0 where
  new_put : (r i : ℕ) (w : List ℕ) → r < c.rings → i < n_of c.order → holds_index hand i ≡ true → Enables c hand None Idle (E1 r i w) (AtE1 r i w 0)
  new_get : (r : ℕ) → r < c.rings → Enables c hand None Idle (D1 r) (AtD1 r)
  continues : (spent : Option ℕ) (phase : Phase) (step : Step) → next_step phase ≡ Some step → started step ≡ None → Enables c hand spent phase step phase

put_enabled : (c : Setup) (hand : List ℕ) (r i : ℕ) (w : List ℕ) (turn : Phase) → turn_at c hand None Idle (E1 r i w) ≡ Some turn
    → Enables c hand None Idle (E1 r i w) turn
put_enabled c hand r i w turn e =
    elim (cases_Bool (nat_lt r c.rings && nat_lt i (n_of c.order) && holds_index hand i)) [
      | inl holds ↦
          let both = and_parts (nat_lt r c.rings && nat_lt i (n_of c.order)) (holds_index hand i) holds in
          let low = and_parts (nat_lt r c.rings) (nat_lt i (n_of c.order)) both.0 in
          let is : Some (AtE1 r i w 0) ≡ Some turn = rw holds at e in
          let same : AtE1 r i w 0 ≡ turn = cc in
          rw (← same) (new_put r i w (ltb-true _ _ low.0) (ltb-true _ _ low.1) both.1)
      | inr fails ↦ let is : ◌≡◌ {A = Option Phase} None (Some turn) = rw fails at e in absurd (cc)
    ]

get_enabled : (c : Setup) (hand : List ℕ) (r : ℕ) (turn : Phase) → turn_at c hand None Idle (D1 r) ≡ Some turn → Enables c hand None Idle (D1 r) turn
get_enabled c hand r turn e =
    elim (cases_Bool (nat_lt r c.rings)) [
      | inl holds ↦
          let is : Some (AtD1 r) ≡ Some turn = rw holds at e in
          let same : AtD1 r ≡ turn = cc in
          rw (← same) (new_get r (ltb-true _ _ holds))
      | inr fails ↦ let is : ◌≡◌ {A = Option Phase} None (Some turn) = rw fails at e in absurd (cc)
    ]

-- a turn is the seat's phase, or begins a call
pub enables : (c : Setup) (hand : List ℕ) (spent : Option ℕ) (phase : Phase) (step : Step) (turn : Phase) → turn_at c hand spent phase step ≡ Some turn
    → Enables c hand spent phase step turn
enables c hand None Idle (E1 r i w) turn e = put_enabled c hand r i w turn e
enables c hand None Idle (D1 r) turn e = get_enabled c hand r turn e
enables c hand (Some ticket) Idle (E1 r i w) turn e = absurd (cc)
enables c hand (Some ticket) Idle (D1 r) turn e = absurd (cc)
enables c hand spent (AtE1 r i w l) E1Again turn e = let same : AtE1 r i w l ≡ turn = cc in rw (← same) (continues spent (AtE1 r i w l) E1Again refl refl)
enables c hand spent (AtE2 r i w t l) E2 turn e = let same : AtE2 r i w t l ≡ turn = cc in rw (← same) (continues spent (AtE2 r i w t l) E2 refl refl)
enables c hand spent (AtE3 r i w t e') E3 turn e = let same : AtE3 r i w t e' ≡ turn = cc in rw (← same) (continues spent (AtE3 r i w t e') E3 refl refl)
enables c hand spent (AtE4 r i w t e') E4 turn e = let same : AtE4 r i w t e' ≡ turn = cc in rw (← same) (continues spent (AtE4 r i w t e') E4 refl refl)
enables c hand spent (AtE5 r i w t) E5 turn e = let same : AtE5 r i w t ≡ turn = cc in rw (← same) (continues spent (AtE5 r i w t) E5 refl refl)
enables c hand spent (AtE6 r i w t) E6 turn e = let same : AtE6 r i w t ≡ turn = cc in rw (← same) (continues spent (AtE6 r i w t) E6 refl refl)
enables c hand spent (AtD2 r l) D2 turn e = let same : AtD2 r l ≡ turn = cc in rw (← same) (continues spent (AtD2 r l) D2 refl refl)
enables c hand spent (AtD3 r h l) D3 turn e = let same : AtD3 r h l ≡ turn = cc in rw (← same) (continues spent (AtD3 r h l) D3 refl refl)
enables c hand spent (AtD4 r h) D4 turn e = let same : AtD4 r h ≡ turn = cc in rw (← same) (continues spent (AtD4 r h) D4 refl refl)
enables c hand spent (AtD5 r h e') D5 turn e = let same : AtD5 r h e' ≡ turn = cc in rw (← same) (continues spent (AtD5 r h e') D5 refl refl)
enables c hand spent (AtD6 r h) D6 turn e = let same : AtD6 r h ≡ turn = cc in rw (← same) (continues spent (AtD6 r h) D6 refl refl)
enables c hand spent (AtD7 r h from to) D7 turn e = let same : AtD7 r h from to ≡ turn = cc in rw (← same) (continues spent (AtD7 r h from to) D7 refl refl)
enables c hand spent (AtD8 r h from) D8 turn e = let same : AtD8 r h from ≡ turn = cc in rw (← same) (continues spent (AtD8 r h from) D8 refl refl)
enables c hand spent (AtD9 r h from to) D9 turn e = let same : AtD9 r h from to ≡ turn = cc in rw (← same) (continues spent (AtD9 r h from to) D9 refl refl)
enables c hand spent (AtD10 r h leaving) D10 turn e =
    let same : AtD10 r h leaving ≡ turn = cc in rw (← same) (continues spent (AtD10 r h leaving) D10 refl refl)
enables c hand spent phase step turn e = absurd (cc)

-- the first step of a call: an enqueue of an index in the hand, or a dequeue
pub data Begins (c : Setup) (hand : List ℕ) : Phase → Type 0 where
  begins_put : (r i : ℕ) (w : List ℕ) → r < c.rings → i < n_of c.order → holds_index hand i ≡ true → Begins c hand (AtE1 r i w 0)
  begins_get : (r : ℕ) → r < c.rings → Begins c hand (AtD1 r)

either_turn : (c : Setup) (hand : List ℕ) (spent : Option ℕ) (phase : Phase) (step : Step) (turn : Phase) → Enables c hand spent phase step turn
    → (turn ≡ phase) ⊎ ((phase ≡ Idle) × (spent ≡ None) × Begins c hand turn)
either_turn c hand spent phase step turn (new_put r i w ring index held) = inr (refl, refl, begins_put r i w ring index held)
either_turn c hand spent phase step turn (new_get r ring) = inr (refl, refl, begins_get r ring)
either_turn c hand spent phase step turn (continues kept same s next new) = inl refl

-- an enabled turn is the seat's phase, or the seat is idle and keeps no ticket and the turn begins a call
pub begins : (c : Setup) (hand : List ℕ) (spent : Option ℕ) (phase : Phase) (step : Step) (turn : Phase) → turn_at c hand spent phase step ≡ Some turn
    → (turn ≡ phase) ⊎ ((phase ≡ Idle) × (spent ≡ None) × Begins c hand turn)
begins c hand spent phase step turn e = either_turn c hand spent phase step turn (enables c hand spent phase step turn e)

enabled_wakes : (c : Setup) (hand : List ℕ) (spent : Option ℕ) (phase : Phase) (step : Step) (turn : Phase) → Enables c hand spent phase step turn
    → turn ≡ Idle → ⊥
enabled_wakes c hand spent phase step turn (new_put r i w ring index held) idle = cc
enabled_wakes c hand spent phase step turn (new_get r ring) idle = cc
enabled_wakes c hand spent phase step turn (continues kept same s next new) idle =
    let none : next_step Idle ≡ Some s = rw idle at next in cc

-- no turn is idle
pub awake : (c : Setup) (hand : List ℕ) (spent : Option ℕ) (phase : Phase) (step : Step) (turn : Phase) → turn_at c hand spent phase step ≡ Some turn
    → turn ≡ Idle → ⊥
awake c hand spent phase step turn e = enabled_wakes c hand spent phase step turn (enables c hand spent phase step turn e)

-- a seat in the middle of a call may make its next step
pub goes : (c : Setup) (hand : List ℕ) (spent : Option ℕ) (phase : Phase) (step : Step) → next_step phase ≡ Some step
    → turn_at c hand spent phase step ≡ Some phase
goes c hand spent (AtE1 r i w l) E1Again e = refl
goes c hand spent (AtE2 r i w t l) E2 e = refl
goes c hand spent (AtE3 r i w t e') E3 e = refl
goes c hand spent (AtE4 r i w t e') E4 e = refl
goes c hand spent (AtE5 r i w t) E5 e = refl
goes c hand spent (AtE6 r i w t) E6 e = refl
goes c hand spent (AtD2 r l) D2 e = refl
goes c hand spent (AtD3 r h l) D3 e = refl
goes c hand spent (AtD4 r h) D4 e = refl
goes c hand spent (AtD5 r h e') D5 e = refl
goes c hand spent (AtD6 r h) D6 e = refl
goes c hand spent (AtD7 r h from to) D7 e = refl
goes c hand spent (AtD8 r h from) D8 e = refl
goes c hand spent (AtD9 r h from to) D9 e = refl
goes c hand spent (AtD10 r h leaving) D10 e = refl
goes c hand spent phase step e = absurd (cc)

-- and no other
enabled_next : (c : Setup) (hand : List ℕ) (spent : Option ℕ) (phase : Phase) (step : Step) (turn : Phase) → Enables c hand spent phase step turn
    → (phase ≡ Idle → ⊥) → next_step phase ≡ Some step
enabled_next c hand spent phase step turn (new_put r i w ring index held) wakes = absurd (wakes refl)
enabled_next c hand spent phase step turn (new_get r ring) wakes = absurd (wakes refl)
enabled_next c hand spent phase step turn (continues kept same s next new) wakes = next

pub goes_alone : (c : Setup) (hand : List ℕ) (spent : Option ℕ) (phase : Phase) (step : Step) (turn : Phase) → (phase ≡ Idle → ⊥)
    → turn_at c hand spent phase step ≡ Some turn → next_step phase ≡ Some step
goes_alone c hand spent phase step turn wakes e = enabled_next c hand spent phase step turn (enables c hand spent phase step turn e) wakes

-- the turn of a step that is enabled: the one that it begins, or the seat's phase
turn_begun : (c : Setup) (hand : List ℕ) (spent : Option ℕ) (phase : Phase) (step : Step) (turn : Phase) → Enables c hand spent phase step turn
    → turn ≡ unwrap_or (started step) phase
turn_begun c hand spent phase step turn (new_put r i w ring index held) = refl
turn_begun c hand spent phase step turn (new_get r ring) = refl
turn_begun c hand spent phase step turn (continues kept same s next new) = rw new refl

some_turn : (o : Option Phase) → is_some o ≡ true → (turn : Phase) × (o ≡ Some turn)
some_turn None is = absurd (cc)
some_turn (Some turn) is = (turn, refl)

pub enabled_turn : (c : Setup) (hand : List ℕ) (spent : Option ℕ) (phase : Phase) (step : Step) → is_some (turn_at c hand spent phase step) ≡ true
    → turn_at c hand spent phase step ≡ Some (unwrap_or (started step) phase)
enabled_turn c hand spent phase step is =
    let at = some_turn (turn_at c hand spent phase step) is in
    at.1 ∙ ap (λ (turn : Phase). Some turn) (turn_begun c hand spent phase step at.0 (enables c hand spent phase step at.0 at.1))
