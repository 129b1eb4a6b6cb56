-- A schedule's steps made one by one: they are a run, which its lines say. Plan: what is kept from line to line is that the steps so
-- far are such a run, and what the lines give from its state.
use Rattle.std.proofs.Common.{◌≡◌, ℕ, ◌+◌, ◌<◌, ◌≤◌, List, [], ◌∷◌, ◌++◌, append_assoc, map, length, take, refl, sym, ◌∙◌, ap, subst, arith, le-leb}
use Rattle.std.specs.Prelude.{Option, Some, Err, replicate, unwrap_or}
use Rattle.std.specs.Option.{option_map}
use Rattle.std.proofs.lemmas.List.{append-nil, map-append, length-append, length-replicate, take_all}
use Rattle.scq_word.specs.Exports.{n_of}
use Rattle.scq_word.specs.declared.setup.Setup.{Setup}
use Rattle.scq_core.specs.declared.step.Step.{Step}
use Rattle.scq_core.specs.Machine.{Machine}
use Rattle.scq_core.specs.Exports.{start_of, machine_of, step_of}
use Rattle.scq_core.proofs.Turns.{turned}
use Rattle.scq_law.specs.Exports.{StopsAt, Recorded, recorded_after, recorded_by, recorded_first, recorded_of, IsRun, last_state}
use Rattle.scq_law.proofs.Order.RunStates.{moment}
use Rattle.scq_law.proofs.Replays.LongerRuns.{run_first, run_last}
use Rattle.scq_replay.specs.declared.ordering.Schedule.{Schedule}
use Rattle.scq_replay.specs.declared.replaying.ScheduleFault.{ScheduleFault}
use Rattle.scq_replay.specs.Exports.{run_of_schedule, ScheduleLeads, IsScheduleOf, IsAdded, SaysSteps, call_ring, step_line, turn_of_line}
use Rattle.scq_replay.specs.Exports.{schedule_start, HasSetup, Gives, steps_of, turn_in, IsMade, LineIsRefused}
use Rattle.scq_replay.proofs.StepsRun as lines_run

abbrev pub no_contents : Setup → List (List ℕ)
no_contents c = replicate (n_of c.order) []

-- the steps that lines say so far, of which the next has this number
pub record IsSoFar (c : Setup) (lines : List (List ℕ)) (s : Schedule) (number : ℕ) (rest : List (List ℕ)) : Type 0 where
  pub setup : s.state.setup ≡ c
  pub numbered : number ≡ length s.steps.items + 1
  pub few : number ≤ 10001
  pub said : map (turn_in c) lines ≡ map Some s.steps.items ++ map (turn_in c) rest
  pub leads : ScheduleLeads s
  pub printed : List ℕ
  pub gives : lines_run.LinesAreRun c (schedule_start c) lines (machine_of s.state) number rest printed

-- a run of no steps leads to the start
leads_first : (s : Schedule) → s.steps.items ≡ [] → machine_of s.state ≡ start_of s.state.setup (no_contents s.state.setup) → ScheduleLeads s
leads_first s none start =
    let c = s.state.setup in
    record {
      recorded = recorded_first c (no_contents c);
      is_run =
          subst (λ (steps : List (ℕ × Step)). IsRun c (no_contents c) steps (recorded_first c (no_contents c))) (sym none)
          (run_first c (no_contents c) (length-replicate (n_of c.order) []));
      state = start;
    }

-- before the first line
pub so_far_start : (c : Setup) (lines : List (List ℕ)) (s : Schedule) → s.state.setup ≡ c → s.steps.items ≡ [] → machine_of s.state ≡ schedule_start c
    → IsSoFar c lines s 1 lines
so_far_start c lines s setup none start =
    record {
      setup = setup;
      numbered = rw none refl;
      few = omega arith;
      said = rw none refl;
      leads = leads_first s none (start ∙ ap (λ (d : Setup). start_of d (no_contents d)) (sym setup));
      printed = [];
      gives = rw start (lines_run.run_start c (schedule_start c) lines [] refl);
    }

-- a line of a number within the limit says what its fields say
said_in : (c : Setup) (number : ℕ) (line : List ℕ) (turn : ℕ × Step) → number ≤ 10000 → turn_of_line c number line ≡ Some turn → turn_in c line ≡ Some turn
said_in c number line turn few says =
    let here : turn_in c line ≡ Some turn = rw (le-leb number 10000 few) at says in here

-- the run goes on by an enabled step
leads_next : (s t : Schedule) (x : ℕ × Step) → ScheduleLeads s → t.state.setup ≡ s.state.setup → x.0 < s.state.setup.seats
    → step_of s.state.setup (machine_of s.state) x.0 x.1 ≡ Some (machine_of t.state) → t.steps.items ≡ s.steps.items ++ x ∷ [] → ScheduleLeads t
leads_next s t x leads setup low steps adds =
    let c = s.state.setup in
    let here : step_of c leads.recorded.state x.0 x.1 ≡ Some (machine_of t.state) =
    sym (ap (λ (m : Machine). step_of c m x.0 x.1) leads.state) ∙ steps in
    let turn = turned c leads.recorded.state x.0 x.1 (machine_of t.state) here in
    let next = recorded_after c x.0 turn.turn leads.recorded in
    let by : recorded_by c leads.recorded x ≡ Some next = ap (option_map (λ phase. recorded_after c x.0 phase leads.recorded)) turn.enabled in
    let longer = run_last c (no_contents c) s.steps.items leads.recorded next x leads.is_run low by in
    record {
      recorded = next;
      is_run =
          subst (λ (d : Setup). IsRun d (no_contents d) t.steps.items next) (sym setup)
          (subst (λ (steps : List (ℕ × Step)). IsRun c (no_contents c) steps next) (sym adds) longer);
      state = turn.next;
    }

pub so_far_next : (c : Setup) (lines : List (List ℕ)) (s t : Schedule) (number : ℕ) (line : List ℕ) (rest more : List (List ℕ)) → rest ≡ line ∷ more
    → IsSoFar c lines s number rest → number ≤ 10000 → IsAdded s.state.setup number line s t → t.state.setup ≡ s.state.setup
    → IsSoFar c lines t (number + 1) more
so_far_next c lines s t number line rest more cut so_far few added setup =
    let here : IsAdded c number line s t = subst (λ (d : Setup). IsAdded d number line s t) so_far.setup added in
    let says = said_in c number line here.turn few here.says in
    let made : IsMade c number line (machine_of s.state) (machine_of t.state) so_far.printed
    (so_far.printed ++ step_line c number here.turn.0 here.turn.1 (call_ring here.turn.1 ((machine_of s.state).part here.turn.0).phase) (machine_of t.state)) =
    record { turn = here.turn; says = here.says; leads = here.leads; prints = refl } in
    record {
      setup = setup ∙ so_far.setup;
      numbered =
          (let many : length t.steps.items ≡ length s.steps.items + 1 = ap length here.adds ∙ length-append s.steps.items (here.turn ∷ []) in
          let before = so_far.numbered in
          omega (arith, many, before));
      few = omega (arith, few);
      said =
          so_far.said
          ∙ ap (λ (left : List (List ℕ)). map Some s.steps.items ++ map (turn_in c) left) cut
          ∙ ap (λ (said : Option (ℕ × Step)). map Some s.steps.items ++ said ∷ map (turn_in c) more) says
          ∙ sym (append_assoc (map Some s.steps.items) (Some here.turn ∷ []) (map (turn_in c) more))
          ∙ ap (λ (all : List (Option (ℕ × Step))). all ++ map (turn_in c) more)
          (sym (map-append Some s.steps.items (here.turn ∷ [])) ∙ ap (map Some) (sym here.adds));
      leads = leads_next s t added.turn so_far.leads setup added.seat added.leads added.adds;
      printed = _;
      gives =
          lines_run.run_more c (schedule_start c) lines (machine_of s.state) (machine_of t.state) number line rest more so_far.printed _ cut so_far.gives made;
    }

-- a line that is refused decides what all of them give
pub so_far_refused : (text lines : List (List ℕ)) (c : Setup) (s : Schedule) (number : ℕ) (line : List ℕ) (rest more : List (List ℕ)) (fault : ScheduleFault)
    → HasSetup text c lines → rest ≡ line ∷ more → IsSoFar c lines s number rest → LineIsRefused s.state.setup number line (machine_of s.state) fault
    → Gives text (Err fault)
so_far_refused text lines c s number line rest more fault has cut so_far refused =
    let here : LineIsRefused c number line (machine_of s.state) fault =
    subst (λ (d : Setup). LineIsRefused d number line (machine_of s.state) fault) so_far.setup refused in
    subst (Gives text)
    (lines_run.run_refused c (schedule_start c) lines (machine_of s.state) number line rest more so_far.printed fault cut so_far.gives here)
    (steps_of c lines has)

-- after the last line
pub so_far_end : (text lines : List (List ℕ)) (c : Setup) (s : Schedule) (number : ℕ) (rest : List (List ℕ)) → HasSetup text c lines → rest ≡ []
    → IsSoFar c lines s number rest → IsScheduleOf text s
so_far_end text lines c s number rest has none so_far =
    record {
      says =
          subst (λ (d : Setup). SaysSteps text d s.steps.items) (sym so_far.setup)
          (record {
            rest = lines;
            setup = has;
            each = so_far.said ∙ ap (λ (left : List (List ℕ)). map Some s.steps.items ++ map (turn_in c) left) none ∙ append-nil (map Some s.steps.items);
            few = let numbered = so_far.numbered in let few = so_far.few in omega (arith, numbered, few);
          });
      leads = so_far.leads;
    }

-- the run ends in the state
pub last_is : (s : Schedule) → ScheduleLeads s → last_state (run_of_schedule s) ≡ machine_of s.state
last_is s leads =
    let run = run_of_schedule s in
    let all : recorded_of run.setup run.opening (take (length run.steps) run.steps) ≡ Some leads.recorded =
    ap (recorded_of run.setup run.opening) (take_all (length run.steps) run.steps (omega arith)) ∙ leads.is_run.recorded_is in
    ap (λ (o : Option Recorded). (unwrap_or o (recorded_first run.setup run.opening)).state) all ∙ sym leads.state

-- and it stops nowhere
pub stops_nowhere : (s : Schedule) (at : ℕ) → ScheduleLeads s → StopsAt s.state.setup (no_contents s.state.setup) s.steps.items at → ⊥
stops_nowhere s at leads stops =
    let some = moment (run_of_schedule s) leads.recorded leads.is_run (at + 1) in
    let none = stops.here in
    absurd cc
