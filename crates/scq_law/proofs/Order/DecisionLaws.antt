-- The call of a deciding step ends with Nothing, and each call that ends with Nothing has one.
use Rattle.std.proofs.Common.{◌≡◌, ℕ, ◌+◌, ◌<◌, ◌≤◌, inl, inr, true, false, List, [], ◌∷◌, ◌++◌, length, get_or, append-nil, refl, ap, sym, ◌∙◌, subst, arith}
use Rattle.std.specs.Prelude.{Some, slice_get}
use Rattle.std.proofs.lemmas.Bool.{cases_eq}
use Rattle.std.proofs.lemmas.Option.{slice_get-get_or}
use Rattle.scq_word.specs.declared.setup.Setup.{Setup}
use Rattle.scq_core.specs.declared.ended.Ended.{Ended}
use Rattle.scq_core.specs.declared.ended.Ended.TheVariants.{Nothing}
use Rattle.scq_core.specs.declared.phase.Phase.{Phase}
use Rattle.scq_core.specs.Exports.{SeatPart, resting, drawing, landed, seeking, trying, gave_up, stance_of}
use Rattle.scq_core.specs.Machine.{Machine}
use Rattle.scq_law.specs.Exports.{Recorded, IsRun, Decides, IsDecidingStep, Makes, IsFinishedRun, HasEnded, state_before, last_state}
use Rattle.scq_law.proofs.Base.EventFacts.{stance, EventFacts}
use Rattle.scq_law.proofs.Base.TicketEvents.{TicketEvent, calm, drew, fell, laid, finished, entered, refused, began, died, saw_end, lifted, taken, lowered, emptied, overran, ended_by}
use Rattle.scq_law.proofs.Base.Traces.{event_of}
use Rattle.scq_law.proofs.Base.TurnOrigins.{came_from, goes_from}
use Rattle.scq_law.proofs.Places.RecordsAgree.{call_last}
use Rattle.scq_law.proofs.Threshold.EmptyDecisions as law
use Rattle.scq_law.specs.RunSteps.{Run}
use Rattle.scq_law.proofs.Order.RunStates.{StepFacts, step_facts}
use Rattle.scq_law.proofs.Order.RunDraws.{CallEnd, call_end, makes_is, follow_run}
use Rattle.scq_law.proofs.Order.Decisions.{deciding, within}
use Rattle.scq_law.proofs.Aspects.EndedCalls.{ended_none}
use Rattle.scq_law.proofs.Order.CallEnds.{calls_grow, step_before_end, step_end, EndsEmpty, decided, left, ends_empty, saw_decides}
use Rattle.scq_law.proofs.Order.KeyLemmas.{all_idle}
use Rattle.scq_law.proofs.Order.KeyUnique.{leaves_after}
use Rattle.scq_law.proofs.Order.MarkedSteps.{leaving_from, no_one}

-- a deciding event ends its call with Nothing, if at all
decision_ends : (m : Machine) (k : ℕ) (e : TicketEvent) (r : ℕ) (x : Ended) → law.DecidesEmpty m k e r → ended_by e ≡ x ∷ [] → x ≡ Nothing r
decision_ends m k e r x (law.by_refusal u) is = let same : Nothing u ≡ x = cc in sym same
decision_ends m k e r x (law.by_end u h) is = absurd (cc)
decision_ends m k e r x (law.by_level u h at) is = let same : Nothing u ≡ x = cc in sym same

-- a seat that leaves ends its call with Nothing
leaving_ends : (c : Setup) (m : Machine) (k : ℕ) (e : TicketEvent) (n : Machine) {g : _} (facts : EventFacts c m g k e n) (r h : ℕ) (x : Ended)
    → stance m k ≡ gave_up r h true → ended_by e ≡ x ∷ [] → x ≡ Nothing r
leaving_ends c m k calm n facts r h x at is = absurd (cc)
leaving_ends c m k (drew q i w t) n facts r h x at is = absurd (cc)
leaving_ends c m k (fell q i w t z) n facts r h x at is = absurd (cc)
leaving_ends c m k (laid q i w t) n facts r h x at is = absurd (cc)
leaving_ends c m k (finished q i w t) n facts r h x at is = let both : landed q i w t ≡ gave_up r h true = sym facts.proper.was ∙ at in absurd (cc)
leaving_ends c m k (entered q) n facts r h x at is = absurd (cc)
leaving_ends c m k (refused q) n facts r h x at is = let both : resting ≡ gave_up r h true = sym facts.proper.was.rests ∙ at in absurd (cc)
leaving_ends c m k (began q u) n facts r h x at is = absurd (cc)
leaving_ends c m k (died q u) n facts r h x at is = absurd (cc)
leaving_ends c m k (saw_end q u) n facts r h x at is = absurd (cc)
leaving_ends c m k (lifted q u to) n facts r h x at is = absurd (cc)
leaving_ends c m k (taken q u i w) n facts r h x at is = let both : trying q u ≡ gave_up r h true = sym facts.proper.was ∙ at in absurd (cc)
leaving_ends c m k (lowered q u) n facts r h x at is = absurd (cc)
leaving_ends c m k (emptied q u) n facts r h x at is =
    elim facts.proper.was [
      | inl a ↦
          let both : gave_up q u true ≡ gave_up r h true = sym a ∙ at in
          let ring : q ≡ r = cc in
          let same : Nothing q ≡ x = cc in
          sym same ∙ ap Nothing ring
      | inr a ↦ let both : gave_up q u false ≡ gave_up r h true = sym a.0 ∙ at in absurd (cc)
    ]
leaving_ends c m k (overran q t true) n facts r h x at is =
    elim facts.proper.was [
      | inl a ↦ let both : resting ≡ gave_up r h true = sym a.rests ∙ at in absurd (cc)
      | inr a ↦ let both : drawing q a.0 a.1 ≡ gave_up r h true = sym a.2 ∙ at in absurd (cc)
    ]
leaving_ends c m k (overran q t false) n facts r h x at is = let both : seeking q ≡ gave_up r h true = sym facts.proper.was ∙ at in absurd (cc)

-- a seat that leaves has decided
record HasDecided (run : Run) (r i k : ℕ) : Type 0 where
  at : ℕ
  is : IsDecidingStep run at k (length ((state_before run i).part k).calls) r

module _ (run : Run) (recorded : Recorded) (is_run : IsRun run.setup run.opening run.steps recorded) where
  -- the step itself, where its turn decides
  own_step : (i : ℕ) (f : StepFacts run i) (r : ℕ) → Decides (state_before run i) f.turn r
      → IsDecidingStep run i f.seat (length ((state_before run i).part f.seat).calls) r
  own_step i f r decides =
      record {
        turn = f.turn;
        makes = record { step = f.step; there = f.there; enabled = f.enabled };
        decides = decides;
        in_call = record { step = f.step; there = f.there; in_call = refl };
      }

  has_decided : (i : ℕ) → i ≤ length run.steps → (k h r : ℕ) → stance (state_before run i) k ≡ gave_up r h true → HasDecided run r i k
  has_decided =
      follow_run (length run.steps) (λ i. (k h r : ℕ) → stance (state_before run i) k ≡ gave_up r h true → HasDecided run r i k)
      (λ k h r at. absurd (cc))
      (λ i low old k h r at.
      let f = step_facts run recorded is_run i low in
      elim (cases_eq k f.seat) [
        | inl same ↦ rw same (own i f (old f.seat) h r (rw (← same) at))
        | inr apart ↦
            let part = f.event.event_facts.others k apart in
            let was = old k h r (sym (ap (λ (p : SeatPart). stance_of p.phase) part) ∙ at) in
            record { at = was.at; is = subst (λ (x : ℕ). IsDecidingStep run was.at k x r) (ap (λ (p : SeatPart). length p.calls) (sym part)) was.is }
      ])
    where
      own : (i : ℕ) (f : StepFacts run i) → ((h r : ℕ) → stance (state_before run i) f.seat ≡ gave_up r h true → HasDecided run r i f.seat) → (h r : ℕ)
          → stance (state_before run (i + 1)) f.seat ≡ gave_up r h true → HasDecided run r (i + 1) f.seat
      own i f old h r at =
          let m = state_before run i in
          let later = state_before run (i + 1) in
          let e = event_of run.setup m f.turn in
          let none = ended_none (later.part f.seat).phase (later.part f.seat).calls (λ rests. let both : resting ≡ gave_up r h true = sym rests ∙ at in cc) in
          let empty = no_one (ended_by e) (sym (step_end run i f) ∙ none) in
          let long : length (later.part f.seat).calls ≡ length (m.part f.seat).calls =
          ap length (f.event.event_facts.calls ∙ ap (λ (xs : List Ended). (m.part f.seat).calls ++ xs) empty ∙ append-nil (m.part f.seat).calls) in
          elim (leaving_from run.setup m f.seat e later f.event.event_facts r h at) [
            | inl before ↦
                let was = old h r before in
                record { at = was.at; is = subst (λ (x : ℕ). IsDecidingStep run was.at f.seat x r) (sym long) was.is }
            | inr saw ↦
                record {
                  at = i;
                  is = subst (λ (x : ℕ). IsDecidingStep run i f.seat x r) (sym long) (own_step i f r (saw_decides run.setup m f.turn r h saw));
                }
          ]

  -- each call that has ended with Nothing has a deciding step
  pub nothing_decides : (k x r : ℕ) → HasEnded run k x (Nothing r) → (d : ℕ) × IsDecidingStep run d k x r
  nothing_decides k x r ended =
      let e = call_end run recorded is_run (length run.steps) (omega arith) k x (Nothing r) ended in
      of_end e (ends_empty run.setup (state_before run e.at) e.facts.turn r e.ends)
    where
      of_end : (e : CallEnd run (length run.steps) k x (Nothing r)) → EndsEmpty run.setup (state_before run e.at) e.facts.turn r
          → (d : ℕ) × IsDecidingStep run d k x r
      of_end e (decided decides) = (
        e.at,
        subst (λ (z : ℕ). IsDecidingStep run e.at k z r) e.in_call.in_call
            (subst (λ (s : ℕ). IsDecidingStep run e.at s (length ((state_before run e.at).part s).calls) r) (sym e.seat) (own_step e.at e.facts r decides)),
      )
      of_end e (left h turn) =
          let m = state_before run e.at in
          let low = e.before in
          let p = m.part e.facts.seat in
          let at : stance m e.facts.seat ≡ gave_up r h true =
          goes_from p e.facts.turn (rw turn refl) (came_from run.setup p e.facts.step e.facts.turn e.facts.enabled) ∙ ap stance_of turn in
          let was = has_decided e.at (omega arith) k h r (ap (stance m) e.seat ∙ at) in
          (was.at, subst (λ (z : ℕ). IsDecidingStep run was.at k z r) e.in_call.in_call was.is)

-- and the call of a deciding step ends with Nothing
pub decision_nothing : (run : Run) → IsFinishedRun run → (d k x r : ℕ) → IsDecidingStep run d k x r → HasEnded run k x (Nothing r)
decision_nothing run fin d k x r is =
    let rec = fin.recorded in
    let n = length run.steps in
    let low = within run rec fin.is_run d run.steps is.makes.there in
    let f = step_facts run rec fin.is_run d low in
    let seat = (makes_is run d k is.turn f is.makes).seat in
    let seat_low : k < run.setup.seats = rw seat f.low in
    let up = calls_grow run rec fin.is_run d n k (omega arith) in
    let start = is.in_call.in_call in
    elim (cases_eq (length ((last_state run).part k).calls) x) [
      | inl same ↦
          let leaves = leaves_after run rec fin.is_run d k x r is n (omega arith) low same in
          let both : resting ≡ gave_up r leaves.0 true = sym (ap stance_of (all_idle run fin k seat_low)) ∙ leaves.1 in
          absurd (cc)
      | inr more ↦
          let there = slice_get-get_or ((last_state run).part k).calls x (Nothing r) (omega arith) in
          let ended = get_or ((last_state run).part k).calls x (Nothing r) in
          there ∙ ap Some (of_end (call_end run rec fin.is_run n (omega arith) k x ended there))
    ]
  where
    of_end : {ended : Ended} → CallEnd run (length run.steps) k x ended → ended ≡ Nothing r
    of_end {ended = ended} e =
        let rec = fin.recorded in
        let low = within run rec fin.is_run d run.steps is.makes.there in
        let later = state_before run (e.at + 1) in
        let grown : (later.part k).calls ≡ ((state_before run e.at).part k).calls ++ ended ∷ [] =
        rw e.seat (e.facts.event.event_facts.calls ∙ ap (λ (xs : List Ended). ((state_before run e.at).part e.facts.seat).calls ++ xs) e.ends) in
        let number = e.in_call.in_call in
        let here : slice_get (later.part k).calls x ≡ Some ended = rw (grown, ← number) (call_last ((state_before run e.at).part k).calls ended) in
        let before = step_before_end run rec fin.is_run d (e.at + 1) k x ended here is.in_call.in_call in
        elim (cases_eq d e.at) [
          | inl same ↦ at_once e same
          | inr apart ↦
              let below = e.before in
              let leaves = leaves_after run rec fin.is_run d k x r is e.at (omega arith) (omega arith) number in
              leaving_ends run.setup (state_before run e.at) e.facts.seat _ later e.facts.event.event_facts r leaves.0 ended
              (ap (stance (state_before run e.at)) (sym e.seat) ∙ leaves.1) e.ends
        ]
      where
        at_once : {ended : Ended} (e : CallEnd run (length run.steps) k x ended) → d ≡ e.at → ended ≡ Nothing r
        at_once {ended = ended} e same =
            let rec = fin.recorded in
            let here : IsDecidingStep run e.at k x r = subst (λ (z : ℕ). IsDecidingStep run z k x r) same is in
            let f = step_facts run rec fin.is_run e.at e.before in
            let makes : Makes run e.at e.facts.seat e.facts.turn =
            record { step = e.facts.step; there = e.facts.there; enabled = e.facts.enabled } in
            let turn = (makes_is run e.at e.facts.seat e.facts.turn f makes).turn_is in
            decision_ends (state_before run e.at) f.seat (event_of run.setup (state_before run e.at) f.turn) r ended
            (deciding run rec fin.is_run e.at k x r e.before here)
            (ap (λ (t : Phase). ended_by (event_of run.setup (state_before run e.at) t)) (sym turn) ∙ e.ends)
