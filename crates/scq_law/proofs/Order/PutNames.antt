-- The names of puts: what is recorded as having placed at a put's place is the put by its number among the puts of its seat.
use Rattle.std.proofs.Common.{◌≡◌, ℕ, ◌+◌, ◌<◌, ◌≤◌, ◌⊎◌, inl, inr, true, false, List, [], ◌∷◌, ◌++◌, length, take, append-nil, refl, ap, sym, ◌∙◌, subst, arith}
use Rattle.std.specs.Prelude.{Some, None, slice_get, nat_le, nat_lt}
use Rattle.std.specs.List.{count_by}
use Rattle.std.proofs.lemmas.Bool.{cases_Bool, cases_eq}
use Rattle.std.proofs.lemmas.List.{take_all, take-append-le, length-append}
use Rattle.std.proofs.lemmas.List.Sums.{sum_by-append}
use Rattle.std.proofs.lemmas.Option.{slice_get_within}
use Rattle.scq_word.specs.declared.setup.Setup.{Setup}
use Rattle.scq_word.specs.Exports.{n_of}
use Rattle.scq_core.specs.declared.ended.Ended.{Ended}
use Rattle.scq_core.specs.declared.ended.Ended.TheVariants.{Done, Nothing, Spent}
use Rattle.scq_core.specs.declared.phase.Phase.{Phase}
use Rattle.scq_core.specs.declared.phase.Phase.TheVariants.{Idle, AtE1}
use Rattle.scq_core.specs.Exports.{SeatPart, read, beside, Stance, resting, drawing, putting, landed, stance_of, ring_slots, zero_level, location_of}
use Rattle.scq_core.specs.Exports.{updated}
use Rattle.scq_core.specs.Machine.{Machine}
use Rattle.scq_core.proofs.Turns.{Begins, begins_put, begins_get, begins, awake}
use Rattle.scq_core.proofs.UpdatedLemmas.{updated_here, updated_else, updated_entry_or}
use Rattle.scq_hist.specs.declared.events.PutName.{PutName}
use Rattle.scq_hist.specs.declared.events.PutName.TheVariants.{Opening, Of}
use Rattle.scq_law.specs.Exports.{call_of, Recorded, IsRun, puts_after, placer_after, ends_put, name_of_put, HasEnded, state_before, recorded_before}
use Rattle.scq_law.specs.Exports.{recorded_last, last_state}
use Rattle.scq_law.proofs.Aspects.CoupledRuns.{tied_run}
use Rattle.scq_law.proofs.Aspects.EventRecording.{Within, within, puts_none, placer_by, placer_turn}
use Rattle.scq_law.proofs.Base.EventFacts.{stance, EventFacts}
use Rattle.scq_law.proofs.Base.Ghosts.{Ghost, placed, pending}
use Rattle.scq_law.proofs.Base.TicketEvents.{TicketEvent, calm, drew, fell, laid, finished, entered, refused, began, died, saw_end, lifted, taken, lowered, emptied, overran, event, ended_by, stance_by}
use Rattle.scq_law.proofs.Base.Traces.{event_of}
use Rattle.scq_law.proofs.Places.RecordsAgree.{call_was, ended_few}
use Rattle.scq_law.proofs.Places.Throughout.{records_agree}
use Rattle.scq_law.specs.RunSteps.{Run}
use Rattle.scq_law.proofs.Order.RunStates.{step_facts, ghost_before, moment_run}
use Rattle.scq_law.proofs.Order.RunDraws.{follow_run}

-- 1 for a seat that has a put under way
abbrev busy : Stance → ℕ
busy (drawing r i w) = 1
busy (putting r i w t) = 1
busy (landed r i w t) = 1
busy _ = 0

abbrev puts_in : List Ended → ℕ
puts_in calls = count_by ends_put calls

puts_append : (xs ys : List Ended) → puts_in (xs ++ ys) ≡ puts_in xs + puts_in ys
puts_append xs ys = sum_by-append _ xs ys

-- a put that ends is one more in the record, and no more under way
ended_put : (e : TicketEvent) (s : Stance) → Within e s → puts_in (ended_by e) + busy (stance_by e s) ≡ busy s
ended_put calm s at = omega arith
ended_put (drew r i w t) s at = rw at refl
ended_put (fell r i w t found) s at = rw at refl
ended_put (laid r i w t) s at = rw at refl
ended_put (finished r i w t) s at = rw at refl
ended_put (entered r) s at = rw at refl
ended_put (refused r) s at = rw at refl
ended_put (began r h) s at = rw at refl
ended_put (died r h) s at = rw at refl
ended_put (saw_end r h) s at = rw at refl
ended_put (lifted r h to) s at = rw at refl
ended_put (taken r h i w) s at = rw at refl
ended_put (lowered r h) s at = rw at refl
ended_put (emptied r h) s at = elim at [ inl a ↦ rw a refl | inr a ↦ rw a refl ]
ended_put (overran r t true) s at = rw at.2 refl
ended_put (overran r t false) s at = rw at refl

-- the puts that a seat has begun are those in its record and the one under way
puts_turn : (c : Setup) (k : ℕ) (p : SeatPart) (turn : Phase) (x : ℕ) (y : List ℕ) (puts : ℕ → ℕ) → (turn ≡ Idle → ⊥)
    → (turn ≡ p.phase) ⊎ ((p.phase ≡ Idle) × (p.spent ≡ None) × Begins c p.hand turn) → puts k ≡ puts_in p.calls + busy (stance_of p.phase)
    → puts_after k p.phase turn puts k ≡ puts_in (p.calls ++ ended_by (event c turn x y)) + busy (stance_by (event c turn x y) (stance_of p.phase))
puts_turn c k p turn x y puts awake_turn from old =
    let grown = puts_append p.calls (ended_by (event c turn x y)) in
    elim from [
      | inl same ↦
          let still : puts_after k p.phase turn puts ≡ puts = rw (← same) (puts_none k turn puts awake_turn) in
          let at = ended_put (event c turn x y) (stance_of turn) (within c turn x y awake_turn) in
          let stances : stance_of turn ≡ stance_of p.phase = ap stance_of same in
          let at_phase : puts_in (ended_by (event c turn x y)) + busy (stance_by (event c turn x y) (stance_of p.phase)) ≡ busy (stance_of p.phase) =
          subst (λ (s : Stance). puts_in (ended_by (event c turn x y)) + busy (stance_by (event c turn x y) s) ≡ busy s) stances at in
          let one : puts_after k p.phase turn puts k ≡ puts k = ap (λ (f : ℕ → ℕ). f k) still in
          omega arith
      | inr new ↦
          let rests : puts k ≡ puts_in p.calls + 0 = rw new.0 at old in
          let first = begun_turn turn new.2 in
          rw new.0 (first (omega arith) grown)
    ]
  where
    begun_turn : (t : Phase) → Begins c p.hand t → puts k ≡ puts_in p.calls
        → puts_in (p.calls ++ ended_by (event c t x y)) ≡ puts_in p.calls + puts_in (ended_by (event c t x y))
        → puts_after k Idle t puts k ≡ puts_in (p.calls ++ ended_by (event c t x y)) + busy (stance_by (event c t x y) resting)
    begun_turn t (begins_put r i w ring index held) is grown =
        let one : updated puts k (puts k + 1) k ≡ puts k + 1 = updated_here puts k (puts k + 1) in
        elim (cases_Bool (nat_le c.limit x)) [
          | inl past ↦
              let more : puts_in (p.calls ++ Spent r x true ∷ []) ≡ puts_in p.calls + 1 = puts_append p.calls (Spent r x true ∷ []) in rw past (omega arith)
          | inr under ↦ let more : puts_in (p.calls ++ []) ≡ puts_in p.calls = ap puts_in (append-nil p.calls) in rw under (omega arith)
        ]
    begun_turn t (begins_get r ring) is grown =
        elim (cases_Bool (nat_lt x zero_level)) [
          | inl low ↦
              let more : puts_in (p.calls ++ Nothing r ∷ []) ≡ puts_in p.calls + 0 = puts_append p.calls (Nothing r ∷ []) in rw low (omega arith)
          | inr high ↦ let more : puts_in (p.calls ++ []) ≡ puts_in p.calls = ap puts_in (append-nil p.calls) in rw high (omega arith)
        ]

-- the number of puts that another seat has begun stays
puts_else : (k j : ℕ) (phase turn : Phase) (puts : ℕ → ℕ) → (j ≡ k → ⊥) → puts_after k phase turn puts j ≡ puts j
puts_else k j Idle (AtE1 r i w l) puts apart = updated_else puts k (puts k + 1) j apart
puts_else k j phase turn puts apart = refl

-- an End with Done is that of a turn which ends a put
ended_done : (e : TicketEvent) (r p : ℕ) (w : List ℕ) → ended_by e ≡ Done r p w ∷ [] → (i : ℕ) × (e ≡ finished r i w p)
ended_done calm r p w is = absurd (cc)
ended_done (finished q i v t) r p w is =
    let ring : q ≡ r = cc in let place : t ≡ p = cc in
    let content : v ≡ w = cc in (i, rw (ring, place, content) refl)
ended_done e r p w is = absurd (cc)

-- an event that lays no index at a place leaves who placed there
placer_kept : (c : Setup) (g : Ghost) (m : Machine) (k : ℕ) (e : TicketEvent) (n : Machine) → EventFacts c m g k e n → (puts : ℕ → ℕ) (placer : ℕ → ℕ → PutName)
    (r p i : ℕ) (w : List ℕ) (s x : ℕ) → g.puts r p ≡ placed i w (call_of s x) → placer_by e k puts placer r p ≡ placer r p
placer_kept c g m k (laid q j v t) n facts puts placer r p i w s x is =
    elim (updated_entry_or placer q t (Of k (puts k)) r p) [
      | inl a ↦
          let pends : g.puts r p ≡ pending k j = rw (a.0, a.1) facts.proper.pending in
          let both : placed i w (call_of s x) ≡ pending k j = sym is ∙ pends in
          absurd (cc)
      | inr a ↦ a.1
    ]
placer_kept c g m k e n facts puts placer r p i w s x is = refl

-- what is kept along a run
record Named (t : Recorded) : Type 0 where
  begun : (k : ℕ) → t.puts k ≡ puts_in (t.state.part k).calls + busy (stance t.state k)
  named : (k x r p : ℕ) (w : List ℕ) → slice_get (t.state.part k).calls x ≡ Some (Done r p w)
      → t.placer r p ≡ Of k (puts_in (take (x + 1) (t.state.part k).calls))

module _ (run : Run) (recorded : Recorded) (is_run : IsRun run.setup run.opening run.steps recorded) where
  named_step : (i : ℕ) → i < length run.steps → Named (recorded_before run i) → Named (recorded_before run (i + 1))
  named_step i low old =
      let f = step_facts run recorded is_run i low in
      let c = run.setup in
      let t = recorded_before run i in
      let m = t.state in
      let p = m.part f.seat in
      let x = read m.cells (location_of c f.turn) in
      let y = beside m.cells (location_of c f.turn) in
      let e = event_of c m f.turn in
      let n = state_before run (i + 1) in
      let facts = f.event.event_facts in
      let puts_is : (k : ℕ) → (recorded_before run (i + 1)).puts k ≡ puts_after f.seat p.phase f.turn t.puts k =
      λ k. ap (λ (u : Recorded). u.puts k) f.recorded in
      let placer_is : (r q : ℕ) → (recorded_before run (i + 1)).placer r q ≡ placer_by e f.seat (puts_after f.seat p.phase f.turn t.puts) t.placer r q =
      λ r q. ap (λ (u : Recorded). u.placer r q) f.recorded
      ∙ ap (λ (g : ℕ → ℕ → PutName). g r q) (placer_same c f.seat p f.turn x y t.puts t.placer
      (awake c p.hand p.spent p.phase f.step f.turn f.enabled) (begins c p.hand p.spent p.phase f.step f.turn f.enabled)) in
      let tied = tied_run c run.opening (take i run.steps) t is_run.full (moment_run run recorded is_run i).seats (moment_run run recorded is_run i) in
      let records = records_agree c i (ghost_before run i) m f.trace in
      record {
        begun =
            λ k.
            elim (cases_eq k f.seat) [
              | inl same ↦
                  rw same
                  (puts_is f.seat
                  ∙ puts_turn c f.seat p f.turn x y t.puts (awake c p.hand p.spent p.phase f.step f.turn f.enabled)
                  (begins c p.hand p.spent p.phase f.step f.turn f.enabled) (old.begun f.seat)
                  ∙ sym (ap (λ (xs : List Ended). puts_in xs + busy (stance_by e (stance m f.seat))) facts.calls)
                  ∙ sym (ap (λ (s : Stance). puts_in (n.part f.seat).calls + busy s) facts.stance))
              | inr apart ↦
                  puts_is k ∙ puts_else f.seat k p.phase f.turn t.puts apart ∙ old.begun k
                  ∙ sym (ap (λ (q : SeatPart). puts_in q.calls + busy (stance_of q.phase)) (facts.others k apart))
            ];
        named =
            λ k z r q w is.
            let kept : (z : ℕ) → slice_get (m.part k).calls z ≡ Some (Done r q w)
            → (recorded_before run (i + 1)).placer r q ≡ Of k (puts_in (take (z + 1) (m.part k).calls)) =
            λ z was.
            let made = records.done k z r q w was in
            placer_is r q
            ∙ placer_kept c (ghost_before run i) m f.seat e n facts (puts_after f.seat p.phase f.turn t.puts) t.placer r q made.index w k z made.is
            ∙ old.named k z r q w was in
            elim (cases_eq k f.seat) [
              | inl same ↦
                  let grown : (n.part k).calls ≡ (m.part k).calls ++ ended_by e = rw same facts.calls in
                  elim (call_was (m.part k).calls (ended_by e) z (Done r q w) (ended_few e) (sym (ap (λ (xs : List Ended). slice_get xs z) grown) ∙ is)) [
                    | inl was ↦
                        let inside = slice_get_within (m.part k).calls z (Done r q w) was in
                        kept z was
                        ∙ ap (λ (xs : List Ended). Of k (puts_in xs)) (sym (take-append-le (z + 1) (m.part k).calls (ended_by e) (omega arith))
                        ∙ ap (λ (xs : List Ended). take (z + 1) xs) (sym grown))
                    | inr new ↦
                        let end = ended_done e r q w new.1 in
                        let at : stance m k ≡ landed r end.0 w q =
                        let proper = subst (λ (v : TicketEvent). EventFacts c m (ghost_before run i) f.seat v n) end.1 facts in rw same proper.proper.was in
                        let name = tied.tied.lands k r end.0 q w at in
                        let count = old.begun k in
                        let one : t.puts k ≡ puts_in (m.part k).calls + 1 = rw at at count in
                        let all : take (z + 1) (n.part k).calls ≡ (m.part k).calls ++ Done r q w ∷ [] =
                        ap (λ (xs : List Ended). take (z + 1) xs) (grown ∙ ap (λ (xs : List Ended). (m.part k).calls ++ xs) new.1)
                        ∙ (let long = length_one (m.part k).calls (Done r q w) in let is_last = new.0 in
                        take_all (z + 1) ((m.part k).calls ++ Done r q w ∷ []) (omega arith)) in
                        let number : t.puts k ≡ puts_in (take (z + 1) (n.part k).calls) =
                        one ∙ sym (ap puts_in all ∙ puts_append (m.part k).calls (Done r q w ∷ [])) in
                        placer_is r q ∙ ap (λ (v : TicketEvent). placer_by v f.seat (puts_after f.seat p.phase f.turn t.puts) t.placer r q) end.1 ∙ name
                        ∙ ap (Of k) number
                  ]
              | inr apart ↦
                  let part : n.part k ≡ m.part k = facts.others k apart in
                  kept z (sym (ap (λ (v : SeatPart). slice_get v.calls z) part) ∙ is)
                  ∙ ap (λ (v : SeatPart). Of k (puts_in (take (z + 1) v.calls))) (sym part)
            ];
      }
    where
      length_one : (xs : List Ended) (x : Ended) → length (xs ++ x ∷ []) ≡ length xs + 1
      length_one xs x = length-append xs (x ∷ [])

      placer_same : (c : Setup) (k : ℕ) (p : SeatPart) (turn : Phase) (x : ℕ) (y : List ℕ) (puts : ℕ → ℕ) (placer : ℕ → ℕ → PutName) → (turn ≡ Idle → ⊥)
          → (turn ≡ p.phase) ⊎ ((p.phase ≡ Idle) × (p.spent ≡ None) × Begins c p.hand turn)
          → placer_after k turn x puts placer ≡ placer_by (event c turn x y) k (puts_after k p.phase turn puts) placer
      placer_same c k p turn x y puts placer awake_turn from =
          elim from [
            | inl same ↦
                let still : puts_after k p.phase turn puts ≡ puts = rw (← same) (puts_none k turn puts awake_turn) in
                rw still (placer_turn c k turn x y puts placer)
            | inr new ↦ first turn (puts_after k p.phase turn puts) new.2
          ]
        where
          first : (t : Phase) (more : ℕ → ℕ) → Begins c p.hand t → placer_after k t x puts placer ≡ placer_by (event c t x y) k more placer
          first t more (begins_put r i w ring index held) = elim (cases_Bool (nat_le c.limit x)) [ inl past ↦ rw past refl | inr under ↦ rw under refl ]
          first t more (begins_get r ring) = elim (cases_Bool (nat_lt x zero_level)) [ inl less ↦ rw less refl | inr high ↦ rw high refl ]

  named_along : (i : ℕ) → i ≤ length run.steps → Named (recorded_before run i)
  named_along = follow_run (length run.steps) (λ i. Named (recorded_before run i)) (record {
    begun = λ k. refl;
    named = λ k x r p w is. absurd
        (cc);
  }) named_step

  pub put_named : (k x r p : ℕ) (w : List ℕ) → HasEnded run k x (Done r p w)
      → (recorded_last run).placer r p ≡ name_of_put ((last_state run).part k).calls k x
  put_named k x r p w ended = (named_along (length run.steps) (omega arith)).named k x r p w ended

  pub token_named : (j : ℕ) → j < n_of run.setup.order → (recorded_last run).placer 0 (ring_slots run.setup + j) ≡ Opening j
  token_named j low =
      let n = length run.steps in
      let tied = tied_run run.setup run.opening (take n run.steps) (recorded_last run) is_run.full (moment_run run recorded is_run n).seats
      (moment_run run recorded is_run n) in
      (tied.tied.placed.stood j low).name
