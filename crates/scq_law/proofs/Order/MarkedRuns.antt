-- The marks of a run that is made step by step: from the start, over each step, to its end.
use Rattle.std.proofs.Common.{◌≡◌, ℕ, zero, suc, ◌+◌, ◌<◌, ◌≤◌, inl, inr, true, List, [], ◌∷◌, length, take, get_or, refl, ap, sym, ◌∙◌, subst, arith, eq-eqb, ne_eqb}
use Rattle.std.specs.Prelude.{Some, None, Option, slice_get, slice_index, slice_set, replicate, unwrap_or, ◌==◌}
use Rattle.std.specs.List.{All, Contains}
use Rattle.std.specs.Option.{option_map}
use Rattle.std.proofs.lemmas.Bool.{cases_eq}
use Rattle.std.proofs.lemmas.List.{take_all, length-append, length-set, length-replicate, get_or-set_same, get_or-set_other}
use Rattle.std.proofs.lemmas.List.Elements.{Contains-push, Contains-append_left}
use Rattle.std.proofs.lemmas.Option.{slice_get-get_or}
use Rattle.scq_word.specs.declared.setup.Setup.{Setup}
use Rattle.scq_word.specs.Exports.{n_of}
use Rattle.scq_core.specs.declared.ended.Ended.{Ended}
use Rattle.scq_core.specs.declared.ended.Ended.TheVariants.{Done, Got, Nothing}
use Rattle.scq_core.specs.declared.phase.Phase.{Phase}
use Rattle.scq_core.specs.declared.step.Step.{Step}
use Rattle.scq_core.specs.Machine.{Machine}
use Rattle.scq_core.specs.Exports.{start_of, machine_of, ring_slots, turn_of, moved, step_of}
use Rattle.scq_core.proofs.Turns.{turned}
use Rattle.scq_law.specs.Exports.{StopsAt, Recorded, recorded_after, recorded_by, recorded_first, recorded_of, IsRun, AddsStep, IsUnmarked}
use Rattle.scq_law.specs.Exports.{IsMarkedRun, HoldsOrder, token, tokens_below, tokens_of, calls_by, IsOrderable, by_done, by_got, by_nothing}
use Rattle.scq_law.specs.Exports.{IsFinishedRun, recorded_before, state_before}
use Rattle.scq_law.proofs.Replays.LongerRuns.{run_first, run_last, run_stops}
use Rattle.scq_law.proofs.Replays.StepsRecorded.{more}
use Rattle.scq_law.specs.declared.marking.Marking.{Marking}
use Rattle.scq_law.specs.declared.marks.Marks.{Marks}
use Rattle.scq_law.specs.declared.marks.Member.{Member}
use Rattle.scq_law.specs.declared.ordered.Ordered.TheVariants.{Opening, Call}
use Rattle.scq_law.specs.Order.{of_opening}
use Rattle.scq_law.specs.RunSteps.{Run}
use Rattle.scq_law.proofs.Order.MarkFacts.{IsMarked}
use Rattle.scq_law.proofs.Order.MarkedSteps.{marked_step, pushed_cases}
use Rattle.scq_law.proofs.Order.RunStates.{step_facts}

-- the marking before step i
pub record IsMarking (run : Run) (r i : ℕ) (v : Marking) : Type 0 where
  pub recorded : Recorded
  pub is_run : IsRun run.setup run.opening (take i run.steps) recorded
  pub setup : v.state.setup ≡ run.setup
  pub state : machine_of v.state ≡ recorded.state
  pub ring : v.marks.ring ≡ r
  pub size : length v.marks.calls.items ≡ run.setup.seats
  pub few : (k : ℕ) → slice_index v.marks.calls.items k ≤ i
  pub marks : IsFinishedRun run → IsMarked run r i v.marks

-- the opening puts stand in order of their indices
many_tokens : (slots n : ℕ) → length (tokens_below slots n) ≡ n
many_tokens slots zero = refl
many_tokens slots (suc n) = length-append (tokens_below slots n) (token slots n ∷ []) ∙ (let rest = many_tokens slots n in omega arith)

token_at : (slots n a : ℕ) (m : Member) → slice_get (tokens_below slots n) a ≡ Some m → (a < n) × (m ≡ token slots a)
token_at slots zero a m is = absurd (cc)
token_at slots (suc n) a m is =
    elim (pushed_cases (tokens_below slots n) (token slots n) a m is) [
      | inl old ↦ let rest = token_at slots n a m old in let below = rest.0 in (omega arith, rest.1)
      | inr new ↦
          let here : a ≡ n = new.0 ∙ many_tokens slots n in
          (omega arith, sym new.1 ∙ ap (token slots) (sym here))
    ]

token_stands : (slots n j : ℕ) → j < n → Contains (tokens_below slots n) (token slots j)
token_stands slots zero j low = absurd (omega arith)
token_stands slots (suc n) j low =
    elim (cases_eq j n) [
      | inl same ↦ rw same (Contains-push (tokens_below slots n) (token slots n))
      | inr apart ↦ Contains-append_left (tokens_below slots n) (token slots n ∷ []) (token slots j) (token_stands slots n j (omega arith))
    ]

-- what stands among the tokens of a ring
pub token_of : (c : Setup) (r a : ℕ) (m : Member) → slice_get (tokens_of c r) a ≡ Some m → (r ≡ 0) × (a < n_of c.order) × (m ≡ token (ring_slots c) a)
token_of c r a m is =
    elim (cases_eq r 0) [
      | inl same ↦
          let at : slice_get (tokens_below (ring_slots c) (n_of c.order)) a ≡ Some m = rw (eq-eqb r 0 same) at is in
          let one = token_at (ring_slots c) (n_of c.order) a m at in (same, one.0, one.1)
      | inr apart ↦ let none : ◌≡◌ {A = Option Member} None (Some m) = rw (ne_eqb r 0 apart) at is in absurd (cc)
    ]

replicated : (n k : ℕ) → slice_index (replicate n 0) k ≡ 0
replicated zero k = refl
replicated (suc n) zero = refl
replicated (suc n) (suc k) = replicated n k

-- the marks of no step
pub unmarked : (run : Run) (r : ℕ) (t : Marks) → IsUnmarked run.setup r t → IsMarked run r 0 t
unmarked run r t fresh =
    let decisions = fresh.decisions in
    record {
      ring = fresh.ring;
      noted =
          record {
            puts = λ e k p before draws. absurd (omega arith);
            puts_only = λ p q is. (let none = fresh.puts p in absurd (cc));
            gets = λ e k p before draws. absurd (omega arith);
            decisions = λ d k x before is. absurd (omega arith);
            decisions_only = λ e at. (let here : Contains [] e = rw decisions at at in let low = here.1 in absurd (omega arith));
            rise = rw decisions (record { heads = λ a b d order low. absurd (omega arith); points = λ a b d order low. absurd (omega arith) });
          };
      leaves = λ k h at. absurd (cc);
      calls =
          record {
            size = ap length fresh.calls ∙ length-replicate run.setup.seats 0;
            each = λ k. ap (λ (xs : List ℕ). slice_index xs k) fresh.calls ∙ replicated run.setup.seats k;
          };
      openings =
          λ j ring low. (
            token (ring_slots run.setup) j,
            rw (fresh.members, eq-eqb r 0 ring) (token_stands (ring_slots run.setup) (n_of run.setup.order) j low),
            refl,
          );
      done = λ k x e is on. absurd (cc);
      only =
          λ m at.
          let one = at_position m at in
          let is = one.1.2 in
          rw is (of_opening one.0 one.1.0 one.1.1);
      below =
          λ m at k n ordered.
          let one = at_position m at in
          let both : Opening one.0 ≡ Call k n = sym (ap (λ (x : Member). x.ordered) one.1.2) ∙ ordered in
          absurd (cc);
      apart =
          λ a b m n first second same.
          let one = token_of run.setup r a m (sym (ap (λ (xs : List Member). slice_get xs a) fresh.members) ∙ first) in
          let two = token_of run.setup r b n (sym (ap (λ (xs : List Member). slice_get xs b) fresh.members) ∙ second) in
          let both : Opening a ≡ Opening b = sym (ap (λ (x : Member). x.ordered) one.2) ∙ same ∙ ap (λ (x : Member). x.ordered) two.2 in
          cc;
    }
  where
    at_position : (m : Member) → Contains t.members.items m → (a : ℕ) × ((r ≡ 0) × (a < n_of run.setup.order) × (m ≡ token (ring_slots run.setup) a))
    at_position m at =
        let here : slice_get t.members.items at.0 ≡ Some m = slice_get-get_or t.members.items at.0 m at.1 ∙ ap Some at.2 in
        (at.0, token_of run.setup r at.0 m (sym (ap (λ (xs : List Member). slice_get xs at.0) fresh.members) ∙ here))

pub marking_first : (run : Run) (r : ℕ) (v : Marking) → length run.opening ≡ n_of run.setup.order → v.state.setup ≡ run.setup
    → machine_of v.state ≡ start_of run.setup run.opening → IsUnmarked run.setup r v.marks → IsMarking run r 0 v
marking_first run r v full setup state fresh =
    record {
      recorded = recorded_first run.setup run.opening;
      is_run = run_first run.setup run.opening full;
      setup = setup;
      state = state;
      ring = fresh.ring;
      size = ap length fresh.calls ∙ length-replicate run.setup.seats 0;
      few = λ k. (let none : slice_index v.marks.calls.items k ≡ 0 = ap (λ (xs : List ℕ). slice_index xs k) fresh.calls
          ∙ replicated run.setup.seats k in omega arith);
      marks = λ fin. unmarked run r v.marks fresh;
    }

-- counts of calls rise by at most one
calls_few : (seat i : ℕ) (o : Option Ended) (xs : List ℕ) → ((k : ℕ) → slice_index xs k ≤ i) → seat < length xs → (k : ℕ)
    → slice_index (calls_by seat o xs) k ≤ i + 1
calls_few seat i None xs few low k = let old = few k in omega arith
calls_few seat i (Some e) xs few low k =
    elim (cases_eq k seat) [
      | inl same ↦
          let own : slice_index (slice_set xs seat (slice_index xs seat + 1)) seat ≡ slice_index xs seat + 1 =
          get_or-set_same xs seat (slice_index xs seat + 1) 0 low in
          let old = few seat in
          rw same (omega arith)
      | inr apart ↦
          let other : slice_index (slice_set xs seat (slice_index xs seat + 1)) k ≡ slice_index xs k =
          get_or-set_other xs seat k (slice_index xs seat + 1) 0 apart in
          let old = few k in
          omega arith
    ]

calls_size : (seat : ℕ) (o : Option Ended) (xs : List ℕ) → length (calls_by seat o xs) ≡ length xs
calls_size seat None xs = refl
calls_size seat (Some e) xs = length-set xs seat (slice_index xs seat + 1)

some_same : {A : Type 0} (x y : A) → Some x ≡ Some y → x ≡ y
some_same x y is = cc

none_by : (c : Setup) (recorded : Recorded) (x : ℕ × Step) → step_of c recorded.state x.0 x.1 ≡ None → recorded_by c recorded x ≡ None
none_by c recorded x is = go (turn_of c (recorded.state.part x.0) x.1) is
  where
    go : (o : Option Phase) → option_map (moved c recorded.state x.0) o ≡ None → option_map (λ turn. recorded_after c x.0 turn recorded) o ≡ None
    go None none = refl
    go (Some turn) none = absurd (cc)

module _ (run : Run) (r i : ℕ) (seat : ℕ) (step : Step) (v : Marking) (before : IsMarking run r i v) (low : i < length run.steps)
    (is : (seat, step) ≡ get_or run.steps i (seat, step)) where
  -- where one step more is not enabled
  pub marking_stops : step_of v.state.setup (machine_of v.state) seat step ≡ None → StopsAt run.setup run.opening run.steps i
  marking_stops none =
      let here : step_of run.setup before.recorded.state seat step ≡ None = rw (← before.setup, ← before.state) none in
      let recorded_is = before.is_run.recorded_is in
      record {
        within = low;
        before = rw recorded_is refl;
        here =
            subst (λ (xs : List (ℕ × Step)). recorded_of run.setup run.opening xs ≡ None) (sym (more run.steps i (seat, step) low is))
            (run_stops run.setup run.opening (take i run.steps) before.recorded (seat, step) before.is_run (none_by run.setup before.recorded
            (seat, step) here));
      }

  -- one step more
  pub marking_next : (w : Marking) → All (λ (x : ℕ × Step). x.0 < run.setup.seats) run.steps
      → step_of v.state.setup (machine_of v.state) seat step ≡ Some (machine_of w.state) → w.state.setup ≡ v.state.setup
      → AddsStep v.state.setup seat step (machine_of v.state) (machine_of w.state) (i + 1) v.marks w.marks → IsMarking run r (i + 1) w
  marking_next w seats made setup adds =
      let here : step_of run.setup before.recorded.state seat step ≡ Some (machine_of w.state) =
      sym (ap (λ (c : Setup). step_of c before.recorded.state seat step) before.setup)
      ∙ sym (ap (λ (m : Machine). step_of v.state.setup m seat step) before.state) ∙ made in
      let t = turned run.setup before.recorded.state seat step (machine_of w.state) here in
      let next = recorded_after run.setup seat t.turn before.recorded in
      let by : recorded_by run.setup before.recorded (seat, step) ≡ Some next =
      ap (option_map (λ turn. recorded_after run.setup seat turn before.recorded)) t.enabled in
      let seat_low : seat < run.setup.seats = ap_low seats in
      record {
        recorded = next;
        is_run =
            subst (λ (xs : List (ℕ × Step)). IsRun run.setup run.opening xs next) (sym (more run.steps i (seat, step) low is))
            (run_last run.setup run.opening (take i run.steps) before.recorded next (seat, step) before.is_run seat_low by);
        setup = setup ∙ before.setup;
        state = t.next;
        ring = adds.ring ∙ before.ring;
        size = ap length adds.calls ∙ calls_size seat _ v.marks.calls.items ∙ before.size;
        few = λ k. rw adds.calls (calls_few seat i _ v.marks.calls.items before.few (let many = before.size in omega arith) k);
        marks =
            λ fin.
            let f = step_facts run fin.recorded fin.is_run i low in
            let both : Some (f.seat, f.step) ≡ Some (seat, step) =
            sym f.there ∙ slice_get-get_or run.steps i (seat, step) low ∙ ap Some (sym is) in
            let pair : ◌≡◌ {A = ℕ × Step} (f.seat, f.step) (seat, step) = some_same (f.seat, f.step) (seat, step) both in
            let now : machine_of v.state ≡ state_before run i = before.state ∙ ap (λ (x : Recorded). x.state) (recorded_here before.is_run.recorded_is) in
            let turn_is : Some f.turn ≡ Some t.turn =
            sym f.enabled ∙ ap (λ (x : ℕ × Step). turn_of run.setup ((state_before run i).part x.0) x.1) pair
            ∙ sym (ap (λ (m : Recorded). turn_of run.setup (m.state.part seat) step) (recorded_here before.is_run.recorded_is)) ∙ t.enabled in
            let turn : f.turn ≡ t.turn = some_same f.turn t.turn turn_is in
            let later : machine_of w.state ≡ state_before run (i + 1) =
            t.next
            ∙ ap (λ (x : Recorded). (recorded_after run.setup seat t.turn x).state) (recorded_here before.is_run.recorded_is)
            ∙ ap (λ (z : Phase). (recorded_after run.setup seat z (recorded_before run i)).state) (sym turn)
            ∙ ap (λ (x : ℕ × Step). (recorded_after run.setup x.0 f.turn (recorded_before run i)).state) (sym pair)
            ∙ sym (ap (λ (x : Recorded). x.state) f.recorded) in
            marked_step run fin r i f v.marks w.marks (before.marks fin)
            (subst (λ (x : ℕ × Step). AddsStep run.setup x.0 x.1 (state_before run i) (state_before run (i + 1)) (i + 1) v.marks w.marks) (sym pair)
            (subst (λ (m : Machine). AddsStep run.setup seat step m (state_before run (i + 1)) (i + 1) v.marks w.marks) now
            (subst (λ (m : Machine). AddsStep run.setup seat step (machine_of v.state) m (i + 1) v.marks w.marks) later
            (subst (λ (c : Setup). AddsStep c seat step (machine_of v.state) (machine_of w.state) (i + 1) v.marks w.marks) before.setup adds))));
      }
    where
      ap_low : All (λ (x : ℕ × Step). x.0 < run.setup.seats) run.steps → seat < run.setup.seats
      ap_low seats = subst (λ (x : ℕ × Step). x.0 < run.setup.seats) (sym is) (seats i (seat, step) low)

      recorded_here : recorded_of run.setup run.opening (take i run.steps) ≡ Some before.recorded → before.recorded ≡ recorded_before run i
      recorded_here at = sym (ap (λ (o : Option Recorded). unwrap_or o (recorded_first run.setup run.opening)) at)

on_own : (r : ℕ) → (r == r) ≡ true
on_own r = eq-eqb r r refl

pub holds_order : (run : Run) (r : ℕ) (t : Marks) → IsMarked run r (length run.steps) t → HoldsOrder run r t.members.items
holds_order run r t marks =
    record {
      calls = λ seat call orderable. of seat call orderable;
      openings = marks.openings;
      only = marks.only;
      apart = marks.apart;
    }
  where
    of : (seat call : ℕ) → IsOrderable run r seat call → (m : Member) × Contains t.members.items m × (m.ordered ≡ Call seat (call + 1))
    of seat call (by_done p w ended) = marks.done seat call (Done r p w) ended (on_own r)
    of seat call (by_got p w ended) = marks.done seat call (Got r p w) ended (on_own r)
    of seat call (by_nothing ended) = marks.done seat call (Nothing r) ended (on_own r)

-- the whole run
pub marking_last : (run : Run) (r i : ℕ) (v : Marking) → length run.steps ≤ i → i ≤ length run.steps → IsMarking run r i v
    → IsMarkedRun run.setup run.opening run.steps r v
marking_last run r i v up down at =
    let all : take i run.steps ≡ run.steps = take_all i run.steps up in
    let is_run = subst (λ (xs : List (ℕ × Step)). IsRun run.setup run.opening xs at.recorded) all at.is_run in
    let end : i ≡ length run.steps = omega arith in
    record {
      recorded = at.recorded;
      is_run = is_run;
      setup = at.setup;
      state = at.state;
      marks =
          λ idle.
          holds_order run r v.marks
          (subst (λ (n : ℕ). IsMarked run r n v.marks) end (at.marks (record { recorded = at.recorded; is_run = is_run; idle = idle })));
    }
