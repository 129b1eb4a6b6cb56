-- Deciding steps: each place whose put had ended is below Head there. So a deciding step whose Head is no further than a put's
-- place comes before the put's last step.
use Rattle.std.proofs.Common.{◌≡◌, ℕ, ◌+◌, ◌<◌, ◌≤◌, inl, inr, true, false, List, [], ◌∷◌, ◌++◌, length, refl, ap, sym, ◌∙◌, subst, arith, lt-ltb, le-leb}
use Rattle.std.specs.Prelude.{Some, slice_get, nat_lt, nat_le}
use Rattle.std.proofs.lemmas.Bool.{cases_eq, cases_lt}
use Rattle.std.specs.List.{Contains}
use Rattle.std.proofs.lemmas.Option.{slice_get_within, get_or_from_slice_get}
use Rattle.scq_word.specs.declared.setup.Setup.{Setup}
use Rattle.scq_core.specs.declared.ended.Ended.{Ended}
use Rattle.scq_core.specs.declared.ended.Ended.TheVariants.{Done}
use Rattle.scq_core.specs.declared.phase.Phase.{Phase}
use Rattle.scq_core.specs.declared.phase.Phase.TheVariants.{AtD1, AtD6, AtD10}
use Rattle.scq_core.specs.Machine.{Machine}
use Rattle.scq_core.specs.Exports.{Stance, gave_up, stance_of, zero_level}
use Rattle.scq_law.specs.Exports.{IsFinished, Recorded, IsRun, Makes, HasEnded, state_before, recorded_before, Decides, IsDecidingStep, DecidesBefore}
use Rattle.scq_law.proofs.Base.EventFacts.{stance}
use Rattle.scq_law.proofs.Base.TicketEvents.{TicketEvent, ended_by}
use Rattle.scq_law.proofs.Base.TurnOrigins.{came_from, goes_from}
use Rattle.scq_law.proofs.Base.Traces.{event_of}
use Rattle.scq_law.proofs.Places.RecordsAgree.{call_last}
use Rattle.scq_law.proofs.Replays.LastingPlaces.{places_last_throughout}
use Rattle.scq_law.proofs.Threshold.EmptyDecisions as law
use Rattle.scq_law.specs.RunSteps.{Run}
use Rattle.scq_law.proofs.Order.RunStates.{step_facts, ghost_before, moment_run}
use Rattle.scq_law.proofs.Order.RunDraws.{CallEnd, call_end, makes_is}

-- a deciding turn is a deciding event
decides_event : (c : Setup) (m : Machine) (k : ℕ) (turn : Phase) (r : ℕ) → ((h : ℕ) → turn ≡ AtD10 r h false → stance m k ≡ gave_up r h false)
    → Decides m turn r → law.DecidesEmpty m k (event_of c m turn) r
decides_event c m k (AtD1 q) r at d =
    let is : nat_lt (m.cells.threshold q) zero_level ≡ true = rw d.0 (lt-ltb (m.cells.threshold r) zero_level d.1) in
    rw (is, d.0) (law.by_refusal r)
decides_event c m k (AtD6 q h) r at d =
    let is : nat_le (m.cells.tail q) (h + 1) ≡ true = rw d.0 (le-leb (m.cells.tail r) (h + 1) d.1) in
    rw (is, d.0) (law.by_end r h)
decides_event c m k (AtD10 q h false) r at d =
    let is : nat_le (m.cells.threshold q) zero_level ≡ true = rw d.0 (le-leb (m.cells.threshold r) zero_level d.1) in
    rw (is, d.0) (law.by_level r h (at h (ap (λ (a : ℕ). AtD10 a h false) d.0)))
decides_event c m k turn r at d = absurd d

-- it ends no put
ends_no_put : (m : Machine) (k : ℕ) (e : TicketEvent) (r q p : ℕ) (w : List ℕ) → law.DecidesEmpty m k e r → ended_by e ≡ Done q p w ∷ [] → ⊥
ends_no_put m k e r q p w (law.by_refusal u) is = cc
ends_no_put m k e r q p w (law.by_end u h) is = cc
ends_no_put m k e r q p w (law.by_level u h at) is = cc

-- a call of a record stands in it
pub stands_in : {A : Type 0} (xs : List A) (i : ℕ) (x : A) → slice_get xs i ≡ Some x → Contains xs x
stands_in xs i x is = (i, slice_get_within xs i x is, get_or_from_slice_get xs i x x is)

module _ (run : Run) (recorded : Recorded) (is_run : IsRun run.setup run.opening run.steps recorded) where
  pub within : (i : ℕ) {A : Type 0} {x : A} (xs : List A) → slice_get xs i ≡ Some x → i < length xs
  within i {x = x} xs is = slice_get_within xs i x is

  -- the deciding event of a deciding step
  pub deciding : (d k x r : ℕ) (low : d < length run.steps) → IsDecidingStep run d k x r
      → law.DecidesEmpty (state_before run d) (step_facts run recorded is_run d low).seat
      (event_of run.setup (state_before run d) (step_facts run recorded is_run d low).turn) r
  deciding d k x r low is =
      let f = step_facts run recorded is_run d low in
      let same = makes_is run d k is.turn f is.makes in
      decides_event run.setup (state_before run d) f.seat f.turn r
      (λ h at. ap (λ (s : Stance). s) (goes_from ((state_before run d).part f.seat) f.turn (rw at refl)
      (came_from run.setup ((state_before run d).part f.seat) f.step f.turn f.enabled)) ∙ ap stance_of at)
      (subst (λ (t : Phase). Decides (state_before run d) t r) same.turn_is is.decides)

  pub decided_below : (d k x r p : ℕ) → IsDecidingStep run d k x r → IsFinished run.setup (state_before run d) r p → p < (state_before run d).cells.head r
  decided_below d k x r p is fin =
      let low = within d run.steps is.makes.there in
      let f = step_facts run recorded is_run d low in
      law.decides run.setup d (ghost_before run d) (state_before run d) f.seat (event_of run.setup (state_before run d) f.turn) (state_before run (d + 1))
      f.trace f.event r (deciding d k x r low is) p fin

  -- a deciding step whose Head is no further than the place of a put comes before the put's last step
  pub decides_before : (d j y k x r p : ℕ) (w : List ℕ) → IsDecidingStep run d j y r → (state_before run d).cells.head r ≤ p → HasEnded run k x (Done r p w)
      → DecidesBefore run d k x r p
  decides_before d j y k x r p w is head ended =
      let low = within d run.steps is.makes.there in
      let e = call_end run recorded is_run (length run.steps) (omega arith) k x (Done r p w) ended in
      elim (cases_lt d e.at) [
        | inl less ↦ record { decider = j; nothing = y; decides = is; head = head; later = e.at; is_later = e.in_call; before = less }
        | inr past ↦
            elim (cases_eq e.at d) [
              | inl same ↦ absurd (at_once d j y k x r p w is low e same)
              | inr apart ↦
                  let done : IsFinished run.setup (state_before run (e.at + 1)) r p =
                  inl (record { seat = k; content = w; ended = after k x (Done r p w) e }) in
                  let still = (places_last_throughout run.setup run.opening run.steps is_run.full is_run.seats).last (e.at + 1) d
                  (recorded_before run (e.at + 1)) (recorded_before run d) (omega arith) (moment_run run recorded is_run (e.at + 1))
                  (moment_run run recorded is_run d) in
                  let below = decided_below d j y r p is (still.finished r p done) in
                  absurd (omega arith)
            ]
      ]
    where
      after : (k x : ℕ) (ended : Ended) (e : CallEnd run (length run.steps) k x ended) → Contains ((state_before run (e.at + 1)).part k).calls ended
      after k x ended e =
          let facts = e.facts.event.event_facts in
          let grown : ((state_before run (e.at + 1)).part k).calls ≡ ((state_before run e.at).part k).calls ++ ended ∷ [] =
          rw e.seat (facts.calls ∙ ap (λ (xs : List Ended). ((state_before run e.at).part e.facts.seat).calls ++ xs) e.ends) in
          rw grown (stands_in _ _ _ (call_last ((state_before run e.at).part k).calls ended))

      same_end : {k x r p : ℕ} {w : List ℕ} (e : CallEnd run (length run.steps) k x (Done r p w)) (low : e.at < length run.steps)
          → ended_by (event_of run.setup (state_before run e.at) (step_facts run recorded is_run e.at low).turn) ≡ Done r p w ∷ []
      same_end e low =
          let f = step_facts run recorded is_run e.at low in
          let makes : Makes run e.at e.facts.seat e.facts.turn = record { step = e.facts.step; there = e.facts.there; enabled = e.facts.enabled } in
          let same = makes_is run e.at e.facts.seat e.facts.turn f makes in
          ap (λ (t : Phase). ended_by (event_of run.setup (state_before run e.at) t)) (sym same.turn_is) ∙ e.ends

      at_once : (d j y k x r p : ℕ) (w : List ℕ) → IsDecidingStep run d j y r → d < length run.steps
          → (e : CallEnd run (length run.steps) k x (Done r p w)) → e.at ≡ d → ⊥
      at_once d j y k x r p w is low e same =
          let at : IsDecidingStep run e.at j y r = rw same is in
          let other = makes_is run e.at j at.turn e.facts at.makes in
          let low_e = e.before in
          let same_facts = deciding e.at j y r low_e at in
          ends_no_put (state_before run e.at) _ _ r r p w same_facts (same_end e low_e)
