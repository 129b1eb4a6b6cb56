-- The steps of a run that drew a ticket, and the one that ended a call; and that Tail and Head rise along it.
use Rattle.std.proofs.Common.{◌≡◌, ℕ, zero, suc, ◌+◌, ◌<◌, ◌≤◌, ◌⊎◌, inl, inr, List, [], ◌∷◌, ◌++◌, length, refl, ap, sym, ◌∙◌, subst, arith}
use Rattle.std.specs.Prelude.{Some, slice_get}
use Rattle.std.proofs.lemmas.Bool.{cases_eq}
use Rattle.scq_word.specs.declared.setup.Setup.{Setup}
use Rattle.scq_core.specs.declared.ended.Ended.{Ended}
use Rattle.scq_core.specs.declared.phase.Phase.{Phase}
use Rattle.scq_core.specs.declared.phase.Phase.TheVariants.{AtE1, AtD2}
use Rattle.scq_core.specs.declared.step.Step.{Step}
use Rattle.scq_core.specs.Exports.{SeatPart, read, beside, location_of, turn_of, CountersRise}
use Rattle.scq_law.specs.Exports.{Recorded, IsRun, Makes, DrawsPut, DrawsGet, IsStepOf, state_before, recorded_before}
use Rattle.scq_law.proofs.Base.Ghosts.{start_ghost}
use Rattle.scq_law.proofs.Base.TicketEvents.{TicketEvent, drew, began, ended_by}
use Rattle.scq_law.proofs.Base.StartTickets.{stands_at}
use Rattle.scq_law.proofs.Base.Traces.{event_of}
use Rattle.scq_law.proofs.Places.RecordsAgree.{call_was, ended_few}
use Rattle.scq_law.proofs.Places.SeatTickets.{IsRooted}
use Rattle.scq_law.proofs.Places.Throughout.{rooted}
use Rattle.scq_law.proofs.Replays.RisingWords.{rises_throughout}
use Rattle.scq_law.specs.RunSteps.{Run}
use Rattle.scq_law.proofs.Order.RunStates.{StepFacts, step_facts, ghost_before, moment_run}
use Rattle.scq_law.proofs.Order.TicketDraws.{draws_any, DrawsBy, draws_put, draws_get, draws_none, draws_by}
use Rattle.scq_law.proofs.Order.CallDraws.{OwnsPut, by_pending, by_placed, OwnsGet, by_opened, by_took, put_was, get_was}

-- what holds before the first step and is kept by each holds before each
pub follow_run : (n : ℕ) (P : ℕ → Type 0) → P 0 → ((i : ℕ) → i < n → P i → P (i + 1)) → (i : ℕ) → i ≤ n → P i
follow_run n P start step zero within = start
follow_run n P start step (suc i) within =
    let time : i + 1 ≡ suc i = omega arith in subst P time (step i (omega arith) (follow_run n P start step i (omega arith)))

-- a seat's step is the one that the run has there
pub record IsStepAt (run : Run) (i k : ℕ) (turn : Phase) (f : StepFacts run i) : Type 0 where
  pub seat : k ≡ f.seat
  pub turn_is : turn ≡ f.turn

pub makes_is : (run : Run) (i k : ℕ) (turn : Phase) (f : StepFacts run i) → Makes run i k turn → IsStepAt run i k turn f
makes_is run i k turn f makes =
    let both : Some (k, makes.step) ≡ Some (f.seat, f.step) = sym makes.there ∙ f.there in
    let pair : ◌≡◌ {A = ℕ × Step} (k, makes.step) (f.seat, f.step) = cc in
    let seat : k ≡ f.seat = ap (λ (x : ℕ × Step). x.0) pair in
    let step : makes.step ≡ f.step = ap (λ (x : ℕ × Step). x.1) pair in
    let turns : Some turn ≡ Some f.turn =
    sym makes.enabled ∙ ap (λ (x : ℕ × Step). turn_of run.setup ((state_before run i).part x.0) x.1) pair ∙ f.enabled in
    record { seat = seat; turn_is = cc }

-- the step of its call that drew a ticket: the E1 of a put, the D2 of a get
pub record DrawStep (run : Run) (Draws : ℕ → ℕ → ℕ → ℕ → Type 0) (n r p k x : ℕ) : Type 0 where
  pub at : ℕ
  pub before : at < n
  pub draws : Draws at k r p
  pub in_call : IsStepOf run at k x

abbrev pub PutDraw : Run → ℕ → ℕ → ℕ → ℕ → ℕ → Type 0
PutDraw run = DrawStep run (DrawsPut run)

abbrev pub GetDraw : Run → ℕ → ℕ → ℕ → ℕ → ℕ → Type 0
GetDraw run = DrawStep run (DrawsGet run)

-- a call whose ticket this step draws
record DrawsNow (run : Run) (Draws : ℕ → ℕ → ℕ → ℕ → Type 0) (i : ℕ) (f : StepFacts run i) (r p k x : ℕ) : Type 0 where
  draws : Draws i f.seat r p
  seat : f.seat ≡ k
  calls : length ((state_before run i).part k).calls ≡ x

-- the step that ended a call
pub record CallEnd (run : Run) (n k x : ℕ) (ended : Ended) : Type 0 where
  pub at : ℕ
  pub before : at < n
  pub facts : StepFacts run at
  pub seat : k ≡ facts.seat
  pub in_call : IsStepOf run at k x
  pub ends : ended_by (event_of run.setup (state_before run at) facts.turn) ≡ ended ∷ []

put_turn : (c : Setup) (turn : Phase) (x : ℕ) (e : TicketEvent) (r i : ℕ) (w : List ℕ) (t : ℕ) → DrawsBy c turn x e → e ≡ drew r i w t
    → (least : ℕ) × (turn ≡ AtE1 r i w least) × (x ≡ t) × (t < c.limit)
put_turn c turn x e r i w t (draws_put q j v l is low) same =
    let ring : q ≡ r = cc in
    let index : j ≡ i = cc in
    let content : v ≡ w = cc in
    let ticket : x ≡ t = cc in
    (l, is ∙ rw (ring, index, content) refl, ticket, rw (← ticket) low)
put_turn c turn x e r i w t (draws_get q l is low) same = absurd (cc)
put_turn c turn x e r i w t (draws_none quiet) same = let is = ap draws_any same in absurd (cc)

get_turn : (c : Setup) (turn : Phase) (x : ℕ) (e : TicketEvent) (r t : ℕ) → DrawsBy c turn x e → e ≡ began r t
    → (least : ℕ) × (turn ≡ AtD2 r least) × (x ≡ t) × (t < c.limit)
get_turn c turn x e r t (draws_put q j v l is low) same = absurd (cc)
get_turn c turn x e r t (draws_get q l is low) same =
    let ring : q ≡ r = cc in
    let ticket : x ≡ t = cc in
    (l, is ∙ rw ring refl, ticket, rw (← ticket) low)
get_turn c turn x e r t (draws_none quiet) same = let is = ap draws_any same in absurd (cc)

-- a step that draws
pub event_draws_put : (run : Run) (i : ℕ) (f : StepFacts run i) (r j : ℕ) (w : List ℕ) (p : ℕ) → event_of run.setup (state_before run i) f.turn ≡ drew r j w p
    → DrawsPut run i f.seat r p
event_draws_put run i f r j w p is =
    let m = (state_before run i).cells in
    let t = put_turn run.setup f.turn (read m (location_of run.setup f.turn)) (event_of run.setup (state_before run i) f.turn) r j w p
    (draws_by run.setup f.turn (read m (location_of run.setup f.turn)) (beside m (location_of run.setup f.turn))) is in
    record {
      index = j;
      content = w;
      least = t.0;
      makes = record { step = f.step; there = f.there; enabled = f.enabled ∙ ap Some t.1 };
      found = sym (ap (λ (z : Phase). read m (location_of run.setup z)) t.1) ∙ t.2;
      low = t.3;
    }

pub event_draws_get : (run : Run) (i : ℕ) (f : StepFacts run i) (r p : ℕ) → event_of run.setup (state_before run i) f.turn ≡ began r p
    → DrawsGet run i f.seat r p
event_draws_get run i f r p is =
    let m = (state_before run i).cells in
    let t = get_turn run.setup f.turn (read m (location_of run.setup f.turn)) (event_of run.setup (state_before run i) f.turn) r p
    (draws_by run.setup f.turn (read m (location_of run.setup f.turn)) (beside m (location_of run.setup f.turn))) is in
    record {
      least = t.0;
      makes = record { step = f.step; there = f.there; enabled = f.enabled ∙ ap Some t.1 };
      found = sym (ap (λ (z : Phase). read m (location_of run.setup z)) t.1) ∙ t.2;
      low = t.3;
    }

-- nothing is drawn at the start
start_put : (run : Run) (r p k x : ℕ) → OwnsPut (start_ghost run.setup run.opening) (state_before run 0) r p k x → ⊥
start_put run r p k x (by_pending i is calls) =
    elim (stands_at run.setup run.opening r p) [ inl s ↦ let at = s.is in cc | inr s ↦ let at = s.is in cc ]
start_put run r p k x (by_placed i w is) =
    elim (stands_at run.setup run.opening r p) [ inl s ↦ let at = s.is in cc | inr s ↦ let at = s.is in cc ]

start_get : (run : Run) (r p k x : ℕ) → OwnsGet (start_ghost run.setup run.opening) (state_before run 0) r p k x → ⊥
start_get run r p k x (by_opened is calls) = cc
start_get run r p k x (by_took is) = cc

module _ (run : Run) (recorded : Recorded) (is_run : IsRun run.setup run.opening run.steps recorded) where
  abbrev facts_at : (i : ℕ) → i < length run.steps → StepFacts run i
  facts_at = step_facts run recorded is_run

  -- what owns a ticket has drawn it, where what owns one after a step did before it or draws it now
  draw_of : (Owns : ℕ → ℕ → ℕ → ℕ → ℕ → Type 0) (Draws : ℕ → ℕ → ℕ → ℕ → Type 0) → ((r p k x : ℕ) → Owns 0 r p k x → ⊥)
      → ((i : ℕ) (f : StepFacts run i) (r p k x : ℕ) → Owns (i + 1) r p k x → Owns i r p k x ⊎ DrawsNow run Draws i f r p k x) → (n : ℕ)
      → n ≤ length run.steps → (r p k x : ℕ) → Owns n r p k x → DrawStep run Draws n r p k x
  draw_of Owns Draws start step =
      follow_run (length run.steps) (λ n. (r p k x : ℕ) → Owns n r p k x → DrawStep run Draws n r p k x) (λ r p k x owns. absurd (start r p k x owns))
      (λ i low old r p k x owns.
      let f = facts_at i low in
      elim (step i f r p k x owns) [
        | inl was ↦
            let d = old r p k x was in
            record { at = d.at; before = (let b = d.before in omega arith); draws = d.draws; in_call = d.in_call }
        | inr new ↦
            record {
              at = i;
              before = omega arith;
              draws = subst (λ s. Draws i s r p) new.seat new.draws;
              in_call = record { step = f.step; there = f.there ∙ ap (λ s. Some (s, f.step)) new.seat; in_call = new.calls };
            }
      ])

  root_at : (i : ℕ) (f : StepFacts run i) → IsRooted (ghost_before run i) (state_before run i)
  root_at i f = rooted run.setup i (ghost_before run i) (state_before run i) f.trace

  pub put_draw : (n : ℕ) → n ≤ length run.steps → (r p k x : ℕ) → OwnsPut (ghost_before run n) (state_before run n) r p k x → PutDraw run n r p k x
  put_draw = draw_of (λ n. OwnsPut (ghost_before run n) (state_before run n)) (DrawsPut run) (start_put run)
      (λ i f r p k x owns. elim (put_was run.setup (state_before run i) (ghost_before run i) f.seat i (event_of run.setup (state_before run i) f.turn) (state_before run (i + 1))
      f.event.event_facts (root_at i f) r p k x (subst (λ g. OwnsPut g (state_before run (i + 1)) r p k x) f.ghost owns)) [
        | inl was ↦ inl was
        | inr new ↦ inr (record { draws = event_draws_put run i f r new.index new.content p new.is; seat = new.seat; calls = new.calls })
      ])

  pub get_draw : (n : ℕ) → n ≤ length run.steps → (r p k x : ℕ) → OwnsGet (ghost_before run n) (state_before run n) r p k x → GetDraw run n r p k x
  get_draw = draw_of (λ n. OwnsGet (ghost_before run n) (state_before run n)) (DrawsGet run) (start_get run)
      (λ i f r p k x owns. elim (get_was run.setup (state_before run i) (ghost_before run i) f.seat i (event_of run.setup (state_before run i) f.turn) (state_before run (i + 1))
      f.event.event_facts (root_at i f) r p k x (subst (λ g. OwnsGet g (state_before run (i + 1)) r p k x) f.ghost owns)) [
        | inl was ↦ inl was
        | inr new ↦ inr (record { draws = event_draws_get run i f r p new.is; seat = new.seat; calls = new.calls })
      ])

  -- each call in a record was ended by a step
  pub call_end : (n : ℕ) → n ≤ length run.steps → (k x : ℕ) (ended : Ended) → slice_get ((state_before run n).part k).calls x ≡ Some ended
      → CallEnd run n k x ended
  call_end n within k x ended is =
      follow_run (length run.steps)
      (λ n. (k x : ℕ) (ended : Ended) → slice_get ((state_before run n).part k).calls x ≡ Some ended → CallEnd run n k x ended)
      (λ k x ended is. absurd (cc))
      (λ i low old k x ended is.
      let f = facts_at i low in
      let e = event_of run.setup (state_before run i) f.turn in
      let m = state_before run i in
      let facts = f.event.event_facts in
      let later : CallEnd run i k x ended → CallEnd run (i + 1) k x ended =
      λ d. record { at = d.at; before = (let b = d.before in omega arith); facts = d.facts; seat = d.seat; in_call = d.in_call; ends = d.ends } in
      elim (cases_eq k f.seat) [
        | inl same ↦
            let grown : slice_get ((m.part f.seat).calls ++ ended_by e) x ≡ Some ended =
            ap (λ (xs : List Ended). slice_get xs x) (sym facts.calls) ∙ ap (λ s. slice_get ((state_before run (i + 1)).part s).calls x) (sym same) ∙ is in
            elim (call_was (m.part f.seat).calls (ended_by e) x ended (ended_few e) grown) [
              | inl was ↦ later (old k x ended (ap (λ s. slice_get (m.part s).calls x) same ∙ was))
              | inr new ↦
                  record {
                    at = i;
                    before = omega arith;
                    facts = f;
                    seat = same;
                    in_call =
                        record {
                          step = f.step;
                          there = f.there ∙ ap (λ s. Some (s, f.step)) (sym same);
                          in_call = ap (λ s. length (m.part s).calls) same ∙ sym new.0;
                        };
                    ends = new.1;
                  }
            ]
        | inr apart ↦ later (old k x ended (sym (ap (λ (p : SeatPart). slice_get p.calls x) (facts.others k apart)) ∙ is))
      ])
      n within k x ended is

  -- Tail and Head never fall
  pub rise : (i j : ℕ) → i ≤ j → CountersRise (state_before run i).cells (state_before run j).cells
  rise i j order =
      (rises_throughout run.setup run.opening run.steps is_run.full is_run.seats).counters i j (recorded_before run i) (recorded_before run j) order
      (moment_run run recorded is_run i) (moment_run run recorded is_run j)
