-- Each run has a ghost, and its history is tied to its state. Plan: the tie holds at the start, and is kept by each turn
-- in two parts; what is recorded of the turn is what the two parts make.
use Rattle.std.proofs.Common.{eqb-true, leb-true, lt-ltb, le-leb, ◌≡◌, ℕ, ◌+◌, ◌-◌, ◌<◌, ◌≤◌, ◌⊎◌, inl, inr, true, List, [], ◌∷◌, ◌++◌, length, refl, ap, sym, ◌∙◌, subst, arith, eq-eqb}
use Rattle.std.specs.Prelude.{nat_le, nat_lt, ◌&&◌, ◌==◌, Some, None, slice_index_or, All}
use Rattle.std.proofs.lemmas.Bool.{cases_Bool, cases_eq, and_parts, and_from}
use Rattle.std.proofs.lemmas.Option.{slice_get-get_or}
use Rattle.scq_word.specs.declared.setup.Setup.{Setup}
use Rattle.scq_word.specs.Exports.{n_of}
use Rattle.scq_core.specs.declared.phase.Phase.{Phase}
use Rattle.scq_core.specs.declared.phase.Phase.TheVariants.{Idle}
use Rattle.scq_core.specs.declared.step.Step.{Step}
use Rattle.scq_core.specs.Exports.{updated, SeatPart, read, beside, ring_slots, zero_level, turn_of, moved, location_of, Stance, resting, stance_of}
use Rattle.scq_core.specs.declared.ended.Ended.{Ended}
use Rattle.scq_core.proofs.UpdatedLemmas.{updated_here, updated_else}
use Rattle.scq_core.proofs.Turns.{Begins, begins_put, begins_get, begins, awake}
use Rattle.scq_hist.specs.declared.events.Event as history
use Rattle.scq_hist.specs.declared.events.PutName.{PutName}
use Rattle.scq_hist.specs.declared.events.PutName.TheVariants.{Opening}
use Rattle.scq_law.specs.Exports.{ended_in, Recorded, placer_after, starts, end_of, end_if_idle, puts_after, recorded_after, recorded_first}
use Rattle.scq_law.specs.Exports.{first_placer, name_of_none, IsRun, opening_put}
use Rattle.scq_law.proofs.Base.Ghosts.{Ghost, placed, is_placed, stood, start_ghost}
use Rattle.scq_law.proofs.Base.TicketEvents.{TicketEvent, stance_by, ended_by, event}
use Rattle.scq_law.proofs.Base.Traces.{Trace, trace_start, trace_step, ghost_after}
use Rattle.scq_law.proofs.Base.EventFacts.{stance}
use Rattle.scq_law.proofs.Base.Based.{based}
use Rattle.scq_law.proofs.Base.StartTickets.{Stood, stands_at}
use Rattle.scq_law.proofs.Base.EventSteps.{event_step}
use Rattle.scq_law.proofs.Places.Throughout.{rooted, records_agree, reached}
use Rattle.scq_law.proofs.Threshold.EmptyDecisions.{decides}
use Rattle.scq_law.proofs.Replays.RecordedRuns.{all_along}
use Rattle.scq_law.proofs.Aspects.CoupledTurns.{opens_call, tied_event}
use Rattle.scq_law.proofs.Aspects.PlacedPuts.{NamesPut, PutsArePlaced}
use Rattle.scq_law.proofs.Aspects.Coupling.{calls_of, IsTied}
use Rattle.scq_law.proofs.Aspects.EventRecording.{Within, within, puts_none, ends_by, placer_by, placer_turn}
use Rattle.scq_law.proofs.Aspects.EndedCalls.{first_of_calls, seen_end, turn_stance}

-- the first part leaves it to the second who places
placer_then : (c : Setup) (k : ℕ) (p : SeatPart) (turn : Phase) (x : ℕ) (y : List ℕ) (puts : ℕ → ℕ) (placer : ℕ → ℕ → PutName) → (turn ≡ Idle → ⊥)
    → (turn ≡ p.phase) ⊎ ((p.phase ≡ Idle) × (p.spent ≡ None) × Begins c p.hand turn)
    → placer_by (event c turn x y) k (puts_after k p.phase turn puts) placer ≡ placer_by (event c turn x y) k puts placer
placer_then c k p turn x y puts placer awake_turn from =
    elim from [
      | inl same ↦ let still : puts_after k p.phase turn puts ≡ puts = rw (← same) (puts_none k turn puts awake_turn) in rw still refl
      | inr new ↦ first turn (puts_after k p.phase turn puts) new.2
    ]
  where
    first : (t : Phase) (more : ℕ → ℕ) → Begins c p.hand t → placer_by (event c t x y) k more placer ≡ placer_by (event c t x y) k puts placer
    first t more (begins_put r i w ring index held) = elim (cases_Bool (nat_le c.limit x)) [ inl past ↦ rw past refl | inr under ↦ rw under refl ]
    first t more (begins_get r ring) = elim (cases_Bool (nat_lt x zero_level)) [ inl less ↦ rw less refl | inr high ↦ rw high refl ]

-- the End that is recorded is that of the call which the event ends
finishes_end : (k : ℕ) (placer : ℕ → ℕ → PutName) (phase : Phase) (calls : List Ended) → end_if_idle k placer phase calls ≡ end_of k placer (ended_in phase calls)
finishes_end k placer Idle calls = refl
finishes_end k placer phase calls = refl

end_first : (k : ℕ) (placer : ℕ → ℕ → PutName) (calls : List Ended) → end_of k placer (first_of_calls calls) ≡ ends_by k placer calls
end_first k placer [] = refl
end_first k placer (x ∷ xs) = refl

ends_event : (k : ℕ) (placer : ℕ → ℕ → PutName) (q : SeatPart) (old : List Ended) (s : Stance) (e : TicketEvent) → Within e s → stance_of q.phase ≡ stance_by e s
    → q.calls ≡ old ++ ended_by e → end_if_idle k placer q.phase q.calls ≡ ends_by k placer (ended_by e)
ends_event k placer q old s e at is calls =
    finishes_end k placer q.phase q.calls ∙ ap (end_of k placer) (seen_end q old s e at is calls) ∙ end_first k placer (ended_by e)

-- functions with the same values are the same
all_stances : (f h : ℕ → Stance) → ((j : ℕ) → f j ≡ h j) → f ≡ h
all_stances f h same i j = same j i

same_tied : (c : Setup) (opening : List (List ℕ)) (events1 events2 : List history.Event) (begun : ℕ → ℕ) (placer1 placer2 : ℕ → ℕ → PutName)
    (stance1 stance2 : ℕ → Stance) (calls : ℕ → ℕ) (g : Ghost) → events2 ≡ events1 → placer2 ≡ placer1 → stance2 ≡ stance1
    → IsTied c opening events1 begun placer1 stance1 calls g → IsTied c opening events2 begun placer2 stance2 calls g
same_tied c opening events1 events2 begun placer1 placer2 stance1 stance2 calls g same_events same_placer same_stance tied =
    subst (λ x. IsTied c opening x begun placer2 stance2 calls g) (sym same_events)
    (subst (λ x. IsTied c opening events1 begun x stance2 calls g) (sym same_placer)
    (subst (λ x. IsTied c opening events1 begun placer1 x calls g) (sym same_stance) tied))

-- what is recorded of a run is tied to its state
abbrev pub IsRunTied : Setup → List (List ℕ) → Recorded → Ghost → Type 0
IsRunTied c opening recorded g = IsTied c opening recorded.events recorded.puts recorded.placer (stance recorded.state) (calls_of recorded.state) g

pub tied_turn : (c : Setup) (opening : List (List ℕ)) → length opening ≡ n_of c.order
    → (recorded : Recorded) (time : ℕ) (g : Ghost) (k : ℕ) (step : Step) (turn : Phase) → k < c.seats → turn_of c (recorded.state.part k) step ≡ Some turn
    → Trace c time g recorded.state → IsRunTied c opening recorded g
    → IsRunTied c opening (recorded_after c k turn recorded) (ghost_after c recorded.state time k turn g)
tied_turn c opening full recorded time g k step turn low enabled trace tied =
    let m = recorded.state in
    let p = m.part k in
    let n = moved c m k turn in
    let x = read m.cells (location_of c turn) in
    let y = beside m.cells (location_of c turn) in
    let e = event c turn x y in
    let s = stance_of turn in
    let awake_turn = awake c p.hand p.spent p.phase step turn enabled in
    let from = begins c p.hand p.spent p.phase step turn enabled in
    let root = rooted c time g m trace in
    let records = records_agree c time g m trace in
    let reach = reached c time g m trace in
    let own : (stance m k ≡ s) ⊎ (stance m k ≡ resting) = elim from [ inl same ↦ inl (ap stance_of (sym same)) | inr new ↦ inr (ap stance_of new.0) ] in
    let sc = event_step c time g m k step turn low enabled (based c time g m trace) in
    let root_after = rooted c (time + 1) (ghost_after c m time k turn g) n (trace_step k step turn trace low enabled) in
    let events1 = recorded.events ++ starts k p.phase turn in
    let puts1 = puts_after k p.phase turn recorded.puts in
    let in_call = opens_call c opening recorded.events recorded.puts recorded.placer m g k turn tied root awake_turn from in
    let at = within c turn x y awake_turn in
    let placer1 = placer_by e k puts1 recorded.placer in
    let placer2 = placer_after k turn x recorded.puts recorded.placer in
    let same_placer : placer2 ≡ placer1 = placer_turn c k turn x y recorded.puts recorded.placer
    ∙ sym (placer_then c k p turn x y recorded.puts recorded.placer awake_turn from) in
    let after : stance n k ≡ stance_by e s = sc.event_facts.stance ∙ turn_stance c p step turn x y enabled in
    let ends : end_if_idle k placer2 (n.part k).phase (n.part k).calls ≡ ends_by k placer2 (ended_by e) =
    ends_event k placer2 (n.part k) p.calls s e at after sc.event_facts.calls in
    let now = updated (stance m) k s in
    let stances : (j : ℕ) → stance n j ≡ updated now k (stance_by e s) j =
    λ j.
    elim (cases_eq j k) [
      | inl same ↦ ap (stance n) same ∙ after ∙ sym (updated_here now k (stance_by e s)) ∙ ap (updated now k (stance_by e s)) (sym same)
      | inr other ↦ ap (λ (v : SeatPart). stance_of v.phase) (sc.event_facts.others j other) ∙ sym (updated_else (stance m) k s j other)
          ∙ sym (updated_else now k (stance_by e s) j other)
    ] in
    same_tied c opening (events1 ++ ends_by k placer1 (ended_by e)) (events1 ++ end_if_idle k placer2 (n.part k).phase (n.part k).calls) puts1 placer1 placer2
    (updated now k (stance_by e s)) (stance n) (calls_of n) (ghost_after c m time k turn g)
    (ap (λ z. events1 ++ z) (ends ∙ ap (λ z. ends_by k z (ended_by e)) same_placer))
    same_placer
    (all_stances (stance n) (updated now k (stance_by e s)) stances)
    (tied_event c opening full events1 puts1 recorded.placer time g m k n s in_call root records reach own e sc root_after (decides c time g m k e n trace sc)
    at)

-- the start
module _ (c : Setup) (opening : List (List ℕ)) (full : length opening ≡ n_of c.order) where
  first_in : (r p : ℕ) → r ≡ 0 → ring_slots c ≤ p → p < ring_slots c + n_of c.order → first_placer c r p ≡ Opening (p - ring_slots c)
  first_in r p ring first last =
      let all : (r == 0 && nat_le (ring_slots c) p && nat_lt p (ring_slots c + n_of c.order)) ≡ true =
      and_from (r == 0 && nat_le (ring_slots c) p) (nat_lt p (ring_slots c + n_of c.order))
      (and_from (r == 0) (nat_le (ring_slots c) p) (eq-eqb r 0 ring) (le-leb (ring_slots c) p first)) (lt-ltb p (ring_slots c + n_of c.order) last) in
      rw all refl

  first_token : (r p j : ℕ) → first_placer c r p ≡ Opening j → (r ≡ 0) × (p ≡ ring_slots c + j)
  first_token r p j name =
      elim (cases_Bool (r == 0 && nat_le (ring_slots c) p && nat_lt p (ring_slots c + n_of c.order))) [
        | inl holds ↦
            let both = and_parts (r == 0 && nat_le (ring_slots c) p) (nat_lt p (ring_slots c + n_of c.order)) holds in
            let two = and_parts (r == 0) (nat_le (ring_slots c) p) both.0 in
            let first = leb-true (ring_slots c) p two.1 in
            let is : Opening (p - ring_slots c) ≡ Opening j = rw holds at name in
            let index : p - ring_slots c ≡ j = cc in
            (eqb-true r 0 two.0, omega arith)
        | inr fails ↦ let is : name_of_none ≡ Opening j = rw fails at name in absurd (cc)
      ]

  -- a placed ticket of the start is an opening place
  stood_full : (r p : ℕ) → is_placed (stood c opening r p) ≡ true → Stood c opening r p
  stood_full r p is = elim (stands_at c opening r p) [ inl s ↦ s | inr s ↦ let none = ap is_placed s.is in absurd (cc) ]

  stood_name : (r p : ℕ) → Stood c opening r p → first_placer c r p ≡ Opening (p - ring_slots c)
  stood_name r p s = first_in r p s.ring s.first s.last

  placed_first : PutsArePlaced c opening [] (λ k. 0) (first_placer c) (λ k. resting) (λ k. 0) (stood c opening) (λ r t. 0)
  placed_first =
      record {
        stood =
            λ j low.
            record {
              is =
                  elim (stands_at c opening 0 (ring_slots c + j)) [
                    | inl s ↦ ap is_placed s.is
                    | inr s ↦ absurd (s.out refl (omega arith) (omega arith))
                  ];
              name = (let back : ring_slots c + j - ring_slots c ≡ j = omega arith in first_in 0 (ring_slots c + j) refl (omega arith) (omega arith)
                  ∙ ap Opening back);
            };
        tokens = first_token;
        named =
            λ r p i w b is.
            let s = stood_full r p (ap is_placed is) in
            let first = s.first in
            let last = s.last in
            let same : placed (p - ring_slots c) (slice_index_or opening (p - ring_slots c) []) opening_put ≡ placed i w b = sym s.is ∙ is in
            let content : slice_index_or opening (p - ring_slots c) [] ≡ w = cc in
            subst (λ z. NamesPut opening [] z r w 0) (sym (stood_name r p s))
            (s.ring, slice_get-get_or opening (p - ring_slots c) [] (omega arith) ∙ ap Some content);
        pends = λ r t k i is. elim (stands_at c opening r t) [ inl s ↦ let at = s.is in absurd (cc) | inr s ↦ let at = s.is in absurd (cc) ];
        low = λ r p k n is name. (let at = stood_name r p (stood_full r p is) in absurd (cc));
        one =
            λ r p q u is there same.
            let s = stood_full r p is in
            let z = stood_full q u there in
            let first_s = s.first in
            let first_z = z.first in
            let names : Opening (p - ring_slots c) ≡ Opening (u - ring_slots c) = sym (stood_name r p s) ∙ same ∙ stood_name q u z in
            let index : p - ring_slots c ≡ u - ring_slots c = cc in
            (s.ring ∙ sym z.ring, omega arith);
        early = λ r t. inl refl;
        done = λ e k at. absurd (cc);
      }

  tied_first : IsRunTied c opening (recorded_first c opening) (start_ghost c opening)
  tied_first =
      record {
        origin = λ r t. 0;
        since = λ r t. 0;
        ended = λ r t. 0;
        called = record { doing = λ k. refl; counted = λ k. refl; lawful = λ i. tt };
        placed = placed_first;
        taken =
            record {
              early = λ r h. inl refl;
              opens = λ r h k is. absurd (cc);
              takes = λ r h k j is. absurd (cc);
              got = λ e k name w at. absurd (cc);
            };
        emptied = record { ends = λ e k at. absurd (cc); leaves = λ k r h at. absurd (cc) };
        lands = λ k r i t w is. absurd (cc);
      }

-- a run with its ghost
pub record IsTiedRun (c : Setup) (opening : List (List ℕ)) (recorded : Recorded) : Type 0 where
  pub time : ℕ
  pub ghost : Ghost
  pub trace : Trace c time ghost recorded.state
  pub tied : IsRunTied c opening recorded ghost

pub tied_run_first : (c : Setup) (opening : List (List ℕ)) → length opening ≡ n_of c.order → IsTiedRun c opening (recorded_first c opening)
tied_run_first c opening full =
    record { time = 0; ghost = start_ghost c opening; trace = trace_start opening full; tied = tied_first c opening full }

pub tied_run_turn : (c : Setup) (opening : List (List ℕ)) → length opening ≡ n_of c.order → (recorded : Recorded) (k : ℕ) (step : Step) (turn : Phase)
    → k < c.seats → turn_of c (recorded.state.part k) step ≡ Some turn → IsTiedRun c opening recorded → IsTiedRun c opening (recorded_after c k turn recorded)
tied_run_turn c opening full recorded k step turn low enabled before =
    record {
      time = before.time + 1;
      ghost = ghost_after c recorded.state before.time k turn before.ghost;
      trace = trace_step k step turn before.trace low enabled;
      tied = tied_turn c opening full recorded before.time before.ghost k step turn low enabled before.trace before.tied;
    }

-- every run has one
pub tied_run : (c : Setup) (opening : List (List ℕ)) (steps : List (ℕ × Step)) (recorded : Recorded) → length opening ≡ n_of c.order
    → All (λ (x : ℕ × Step). x.0 < c.seats) steps → IsRun c opening steps recorded → IsTiedRun c opening recorded
tied_run c opening steps recorded full low run =
    all_along c (IsTiedRun c opening) (tied_run_turn c opening full) steps (recorded_first c opening) recorded low run.recorded_is
    (tied_run_first c opening full)
