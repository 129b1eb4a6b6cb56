-- How a step ends a call: what its seat's record and phase say then, why a Nothing comes, and that records only grow.
use Rattle.std.proofs.Common.{◌≡◌, ℕ, ◌+◌, ◌<◌, ◌≤◌, ◌⊎◌, inl, inr, true, false, ◌&&◌, List, [], ◌∷◌, length, refl, ap, sym, ◌∙◌, subst, arith, ltb-true, leb-true}
use Rattle.std.specs.Prelude.{Bool, Some, slice_get, nat_le, nat_lt, ◌==◌}
use Rattle.std.proofs.lemmas.Bool.{cases_Bool, cases_lt}
use Rattle.std.proofs.lemmas.List.{length-append}
use Rattle.std.proofs.lemmas.Option.{slice_get_within}
use Rattle.scq_word.specs.declared.setup.Setup.{Setup}
use Rattle.scq_word.specs.Exports.{cycle_in, is_none_in}
use Rattle.scq_core.specs.declared.ended.Ended.{Ended}
use Rattle.scq_core.specs.declared.ended.Ended.TheVariants.{Done, Nothing, Spent}
use Rattle.scq_core.specs.declared.phase.Phase.{Phase}
use Rattle.scq_core.specs.declared.phase.Phase.TheVariants.{Idle, AtE1, AtE2, AtE3, AtE4, AtE5, AtE6, AtD1, AtD2, AtD3, AtD4, AtD5, AtD6, AtD7, AtD8, AtD9, AtD10}
use Rattle.scq_core.specs.Exports.{read, beside, stance_of, zero_level, reset_level, ring_slots, cycle, location_of}
use Rattle.scq_core.specs.Machine.{Machine}
use Rattle.scq_core.proofs.Turns.{awake}
use Rattle.scq_law.specs.Exports.{ended_in, Recorded, IsRun, Decides, state_before, recorded_before}
use Rattle.scq_law.proofs.Aspects.EventRecording.{within}
use Rattle.scq_law.proofs.Aspects.EndedCalls.{first_of_calls, seen_end, turn_stance}
use Rattle.scq_law.proofs.Base.TicketEvents.{TicketEvent, calm, saw_end, event, ended_by}
use Rattle.scq_law.proofs.Base.Traces.{event_of}
use Rattle.scq_law.proofs.Places.RecordsAgree.{call_stays}
use Rattle.scq_law.proofs.Replays.LastingPlaces.{places_last_throughout}
use Rattle.scq_law.specs.RunSteps.{Run}
use Rattle.scq_law.proofs.Order.RunStates.{StepFacts, moment_run}

pub step_end : (run : Run) (i : ℕ) (f : StepFacts run i)
    → ended_in ((state_before run (i + 1)).part f.seat).phase ((state_before run (i + 1)).part f.seat).calls
    ≡ first_of_calls (ended_by (event_of run.setup (state_before run i) f.turn))
step_end run i f =
    let c = run.setup in
    let m = state_before run i in
    let p = m.part f.seat in
    let x = read m.cells (location_of c f.turn) in
    let y = beside m.cells (location_of c f.turn) in
    let facts = f.event.event_facts in
    seen_end ((state_before run (i + 1)).part f.seat) p.calls (stance_of f.turn) (event_of c m f.turn)
    (within c f.turn x y (awake c p.hand p.spent p.phase f.step f.turn f.enabled))
    (facts.stance ∙ turn_stance c p f.step f.turn x y f.enabled)
    facts.calls

-- why a call ends with Nothing: its turn decides, or it left before
pub data EndsEmpty (c : Setup) (m : Machine) (turn : Phase) (r : ℕ) : Type 0 where
  decided : Decides m turn r → EndsEmpty c m turn r
  left : (h : ℕ) → turn ≡ AtD10 r h true → EndsEmpty c m turn r

same_nothing : (q r : ℕ) → ◌≡◌ {A = List Ended} (Nothing q ∷ []) (Nothing r ∷ []) → q ≡ r
same_nothing q r same = cc

pub ends_empty : (c : Setup) (m : Machine) (turn : Phase) (r : ℕ) → ended_by (event_of c m turn) ≡ Nothing r ∷ [] → EndsEmpty c m turn r
ends_empty c m Idle r is = absurd (cc)
ends_empty c m (AtE1 q i w l) r is =
    elim (cases_Bool (nat_le c.limit (m.cells.tail q))) [
      | inl a ↦ let e : Spent q (m.cells.tail q) true ∷ [] ≡ Nothing r ∷ [] = rw a at is in absurd (cc)
      | inr a ↦ let e : ◌≡◌ {A = List Ended} [] (Nothing r ∷ []) = rw a at is in absurd (cc)
    ]
ends_empty c m (AtE2 q i w t l) r is =
    elim (cases_Bool (nat_lt (cycle_in (ring_slots c) (read m.cells (location_of c (AtE2 q i w t l)))) (cycle c t) && is_none_in (ring_slots c)
    (read m.cells (location_of c (AtE2 q i w t l))))) [
      | inl a ↦ let e : ◌≡◌ {A = List Ended} [] (Nothing r ∷ []) = rw a at is in absurd (cc)
      | inr a ↦ let e : ◌≡◌ {A = List Ended} [] (Nothing r ∷ []) = rw a at is in absurd (cc)
    ]
ends_empty c m (AtE3 q i w t z) r is =
    elim (cases_Bool (nat_le (m.cells.head q) t)) [
      | inl a ↦ let e : ◌≡◌ {A = List Ended} [] (Nothing r ∷ []) = rw a at is in absurd (cc)
      | inr a ↦ let e : ◌≡◌ {A = List Ended} [] (Nothing r ∷ []) = rw a at is in absurd (cc)
    ]
ends_empty c m (AtE4 q i w t z) r is =
    elim (cases_Bool (read m.cells (location_of c (AtE4 q i w t z)) == z)) [
      | inl a ↦ let e : ◌≡◌ {A = List Ended} [] (Nothing r ∷ []) = rw a at is in absurd (cc)
      | inr a ↦ let e : ◌≡◌ {A = List Ended} [] (Nothing r ∷ []) = rw a at is in absurd (cc)
    ]
ends_empty c m (AtE5 q i w t) r is =
    elim (cases_Bool (m.cells.threshold q == reset_level c)) [
      | inl a ↦ let e : Done q t w ∷ [] ≡ Nothing r ∷ [] = rw a at is in absurd (cc)
      | inr a ↦ let e : ◌≡◌ {A = List Ended} [] (Nothing r ∷ []) = rw a at is in absurd (cc)
    ]
ends_empty c m (AtE6 q i w t) r is = absurd (cc)
ends_empty c m (AtD1 q) r is =
    elim (cases_Bool (nat_lt (m.cells.threshold q) zero_level)) [
      | inl a ↦ let ring = same_nothing q r (rw a at is) in decided (ring, ltb-true (m.cells.threshold r) zero_level (rw (← ring) a))
      | inr a ↦ let e : ◌≡◌ {A = List Ended} [] (Nothing r ∷ []) = rw a at is in absurd (cc)
    ]
ends_empty c m (AtD2 q l) r is =
    elim (cases_Bool (nat_le c.limit (m.cells.head q))) [
      | inl a ↦ let e : Spent q (m.cells.head q) false ∷ [] ≡ Nothing r ∷ [] = rw a at is in absurd (cc)
      | inr a ↦ let e : ◌≡◌ {A = List Ended} [] (Nothing r ∷ []) = rw a at is in absurd (cc)
    ]
ends_empty c m (AtD3 q h l) r is =
    elim (cases_Bool (cycle_in (ring_slots c) (read m.cells (location_of c (AtD3 q h l))) == cycle c h)) [
      | inl a ↦ let e : ◌≡◌ {A = List Ended} [] (Nothing r ∷ []) = rw a at is in absurd (cc)
      | inr a ↦
          elim (cases_Bool (nat_lt (cycle_in (ring_slots c) (read m.cells (location_of c (AtD3 q h l)))) (cycle c h))) [
            | inl b ↦ let e : ◌≡◌ {A = List Ended} [] (Nothing r ∷ []) = rw (a, b) at is in absurd (cc)
            | inr b ↦ let e : ◌≡◌ {A = List Ended} [] (Nothing r ∷ []) = rw (a, b) at is in absurd (cc)
          ]
    ]
ends_empty c m (AtD4 q h) r is = absurd (cc)
ends_empty c m (AtD5 q h z) r is =
    elim (cases_Bool (read m.cells (location_of c (AtD5 q h z)) == z)) [
      | inl a ↦ let e : ◌≡◌ {A = List Ended} [] (Nothing r ∷ []) = rw a at is in absurd (cc)
      | inr a ↦ let e : ◌≡◌ {A = List Ended} [] (Nothing r ∷ []) = rw a at is in absurd (cc)
    ]
ends_empty c m (AtD6 q h) r is =
    elim (cases_Bool (nat_le (m.cells.tail q) (h + 1))) [
      | inl a ↦ let e : ◌≡◌ {A = List Ended} [] (Nothing r ∷ []) = rw a at is in absurd (cc)
      | inr a ↦ let e : ◌≡◌ {A = List Ended} [] (Nothing r ∷ []) = rw a at is in absurd (cc)
    ]
ends_empty c m (AtD7 q h from to) r is =
    elim (cases_Bool (m.cells.tail q == from)) [
      | inl a ↦ let e : ◌≡◌ {A = List Ended} [] (Nothing r ∷ []) = rw a at is in absurd (cc)
      | inr a ↦ let e : ◌≡◌ {A = List Ended} [] (Nothing r ∷ []) = rw a at is in absurd (cc)
    ]
ends_empty c m (AtD8 q h from) r is = absurd (cc)
ends_empty c m (AtD9 q h from to) r is = absurd (cc)
ends_empty c m (AtD10 q h true) r is =
    let e : Nothing q ∷ [] ≡ Nothing r ∷ [] = is in
    let ring : q ≡ r = cc in
    left h (ap (λ (z : ℕ). AtD10 z h true) ring)
ends_empty c m (AtD10 q h false) r is =
    elim (cases_Bool (nat_le (m.cells.threshold q) zero_level)) [
      | inl a ↦ let ring = same_nothing q r (rw a at is) in decided (ring, leb-true (m.cells.threshold r) zero_level (rw (← ring) a))
      | inr a ↦ let e : ◌≡◌ {A = List Ended} [] (Nothing r ∷ []) = rw a at is in absurd (cc)
    ]

-- only a D6 sees the end
abbrev is_saw : TicketEvent → Bool
is_saw (saw_end r h) = true
is_saw e = false

saw_from : (c : Setup) (turn : Phase) (x : ℕ) (y : List ℕ) → (is_saw (event c turn x y) ≡ false) ⊎ ((q : ℕ) × (h : ℕ) × (turn ≡ AtD6 q h))
saw_from c Idle x y = inl refl
saw_from c (AtE1 r i w l) x y =
    elim (cases_Bool (nat_le c.limit x)) [ inl a ↦ rw a (inl refl) | inr a ↦ rw a (inl refl) ]
saw_from c (AtE2 r i w t l) x y =
    elim (cases_Bool (nat_lt (cycle_in (ring_slots c) x) (cycle c t) && is_none_in (ring_slots c) x)) [ inl a ↦ rw a (inl refl) | inr a ↦ rw a (inl refl) ]
saw_from c (AtE3 r i w t e) x y =
    elim (cases_Bool (nat_le x t)) [ inl a ↦ rw a (inl refl) | inr a ↦ rw a (inl refl) ]
saw_from c (AtE4 r i w t e) x y =
    elim (cases_Bool (x == e)) [ inl a ↦ rw a (inl refl) | inr a ↦ rw a (inl refl) ]
saw_from c (AtE5 r i w t) x y =
    elim (cases_Bool (x == reset_level c)) [ inl a ↦ rw a (inl refl) | inr a ↦ rw a (inl refl) ]
saw_from c (AtE6 r i w t) x y = inl refl
saw_from c (AtD1 r) x y =
    elim (cases_Bool (nat_lt x zero_level)) [ inl a ↦ rw a (inl refl) | inr a ↦ rw a (inl refl) ]
saw_from c (AtD2 r l) x y =
    elim (cases_Bool (nat_le c.limit x)) [ inl a ↦ rw a (inl refl) | inr a ↦ rw a (inl refl) ]
saw_from c (AtD3 r h l) x y =
    elim (cases_Bool (cycle_in (ring_slots c) x == cycle c h)) [
      | inl a ↦ rw a (inl refl)
      | inr a ↦ elim (cases_Bool (nat_lt (cycle_in (ring_slots c) x) (cycle c h))) [ inl b ↦ rw (a, b) (inl refl) | inr b ↦ rw (a, b) (inl refl) ]
    ]
saw_from c (AtD4 r h) x y = inl refl
saw_from c (AtD5 r h e) x y =
    elim (cases_Bool (x == e)) [ inl a ↦ rw a (inl refl) | inr a ↦ rw a (inl refl) ]
saw_from c (AtD6 r h) x y = inr (r, h, refl)
saw_from c (AtD7 r h from to) x y =
    elim (cases_Bool (x == from)) [ inl a ↦ rw a (inl refl) | inr a ↦ rw a (inl refl) ]
saw_from c (AtD8 r h from) x y = inl refl
saw_from c (AtD9 r h from to) x y = inl refl
saw_from c (AtD10 r h true) x y = inl refl
saw_from c (AtD10 r h false) x y =
    elim (cases_Bool (nat_le x zero_level)) [ inl a ↦ rw a (inl refl) | inr a ↦ rw a (inl refl) ]

pub saw_decides : (c : Setup) (m : Machine) (turn : Phase) (r h : ℕ) → event_of c m turn ≡ saw_end r h → Decides m turn r
saw_decides c m turn r h is =
    elim (saw_from c turn (read m.cells (location_of c turn)) (beside m.cells (location_of c turn))) [
      | inl none ↦ let saw : is_saw (event_of c m turn) ≡ true = ap is_saw is in absurd (cc)
      | inr some ↦ subst (λ (t : Phase). Decides m t r) (sym some.2) (at_end some.0 some.1 (sym (ap (event_of c m) some.2) ∙ is))
    ]
  where
    at_end : (q u : ℕ) → event_of c m (AtD6 q u) ≡ saw_end r h → Decides m (AtD6 q u) r
    at_end q u e =
        elim (cases_Bool (nat_le (m.cells.tail q) (u + 1))) [
          | inl a ↦
              let both : saw_end q u ≡ saw_end r h = rw a at e in
              let ring : q ≡ r = cc in
              (ring, leb-true (m.cells.tail r) (u + 1) (rw (← ring) a))
          | inr a ↦ let both : calm ≡ saw_end r h = rw a at e in absurd (cc)
        ]

module _ (run : Run) (recorded : Recorded) (is_run : IsRun run.setup run.opening run.steps recorded) where
  -- records only grow
  pub call_kept : (i j k x : ℕ) (e : Ended) → i ≤ j → slice_get ((state_before run i).part k).calls x ≡ Some e
      → slice_get ((state_before run j).part k).calls x ≡ Some e
  call_kept i j k x e order is =
      let grows = ((places_last_throughout run.setup run.opening run.steps is_run.full is_run.seats).last i j (recorded_before run i)
      (recorded_before run j) order
      (moment_run run recorded is_run i) (moment_run run recorded is_run j)).records.calls k in
      ap (λ (xs : List Ended). slice_get xs x) grows.appended ∙ call_stays ((state_before run i).part k).calls grows.more x e is

  pub calls_grow : (i j k : ℕ) → i ≤ j → length ((state_before run i).part k).calls ≤ length ((state_before run j).part k).calls
  calls_grow i j k order =
      let grows = ((places_last_throughout run.setup run.opening run.steps is_run.full is_run.seats).last i j (recorded_before run i)
      (recorded_before run j) order
      (moment_run run recorded is_run i) (moment_run run recorded is_run j)).records.calls k in
      let long : length ((state_before run j).part k).calls ≡ length ((state_before run i).part k).calls + length grows.more =
      ap length grows.appended ∙ length-append ((state_before run i).part k).calls grows.more in
      omega arith

  -- a step of a call that has ended by then came before
  pub step_before_end : (i j k x : ℕ) (e : Ended) → slice_get ((state_before run j).part k).calls x ≡ Some e
      → length ((state_before run i).part k).calls ≡ x → i < j
  step_before_end i j k x e is at =
      elim (cases_lt i j) [
        | inl less ↦ less
        | inr past ↦
            let up = calls_grow j i k past in
            let inside = slice_get_within ((state_before run j).part k).calls x e is in
            absurd (omega arith)
      ]
