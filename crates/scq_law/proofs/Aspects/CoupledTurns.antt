-- The tie is kept by a turn. Plan: a turn is recorded in two parts, first the Start of its call where the seat rested, then
-- what its event does; where it decides that the ring is empty, no finished place is at or past Head.
use Rattle.std.proofs.Common.{◌≡◌, ◌≢◌, ℕ, ◌+◌, ◌<◌, ◌≤◌, ◌⊎◌, inl, inr, true, false, List, [], ◌∷◌, ◌++◌, length, refl, ap, sym, ◌∙◌, subst, arith, append-nil, length-append}
use Rattle.std.specs.Prelude.{None}
use Rattle.std.proofs.lemmas.Bool.{cases_eq}
use Rattle.scq_word.specs.declared.setup.Setup.{Setup}
use Rattle.scq_word.specs.Exports.{n_of}
use Rattle.scq_core.specs.declared.phase.Phase.{Phase}
use Rattle.scq_core.specs.declared.phase.Phase.TheVariants.{Idle}
use Rattle.scq_core.specs.Exports.{updated, SeatPart, Stance, resting, drawing, putting, landed, asking, seeking, trying, gave_up, stance_of}
use Rattle.scq_core.specs.Machine.{Machine}
use Rattle.scq_core.proofs.UpdatedLemmas.{updated_here, updated_else, updated_same}
use Rattle.scq_core.proofs.Turns.{Begins, begins_put, begins_get}
use Rattle.scq_hist.specs.declared.events.Event as history
use Rattle.scq_hist.specs.declared.events.PutName.{PutName}
use Rattle.scq_hist.specs.declared.events.Reply.TheVariants.{Nothing, Spent}
use Rattle.scq_law.specs.Exports.{starts, puts_after, call_of, IsFinished}
use Rattle.scq_law.proofs.Base.Ghosts.{Ghost, placed, is_placed}
use Rattle.scq_law.proofs.Base.TicketEvents.{TicketEvent, calm, drew, fell, laid, finished, entered, refused, began, died, saw_end, lifted, taken, lowered, emptied, overran, stance_by, ended_by}
use Rattle.scq_law.proofs.Base.EventFacts.{stance, EventFacts}
use Rattle.scq_law.proofs.Base.EventSteps.{EventStep, event_step, ghost_next}
use Rattle.scq_law.proofs.Places.SeatTickets.{IsRooted}
use Rattle.scq_law.proofs.Aspects.CallsUnderWay.{PutsNow, GetsNow, Doing, put_answer, get_answer}
use Rattle.scq_law.proofs.Aspects.PlacedPuts.{due}
use Rattle.scq_law.proofs.Aspects.Coupling.{calls_of, IsTied, IsFree, tied_put, tied_get, tied_on, tied_end}
use Rattle.scq_law.proofs.Aspects.CoupledPuts.{tied_done, tied_drew, tied_fell, tied_laid}
use Rattle.scq_law.proofs.Aspects.CoupledGets.{tied_began, tied_died, tied_taken}
use Rattle.scq_law.proofs.Aspects.EventRecording.{Within, starts_none, puts_none, ends_by, placer_by}
use Rattle.scq_hist.specs.declared.events.Event.TheVariants.{End}
use Rattle.scq_law.proofs.Threshold.EmptyDecisions.{DecidesEmpty, by_refusal, by_end, by_level}
use Rattle.scq_law.proofs.Aspects.GrowingHistory.{kept_at, under_old}
use Rattle.scq_law.proofs.Aspects.SeenEmpty.{Emptying, finished_old}
use Rattle.scq_law.proofs.Places.RecordsAgree.{RecordsAgree}
use Rattle.scq_law.proofs.Places.ReachedTickets.{IsReached}
use Rattle.scq_law.proofs.Aspects.DecidingGets.{emptying}

-- the seat rests, so it has no ticket
free_at : (g : Ghost) (m : Machine) (k : ℕ) → IsRooted g m → stance m k ≡ resting → IsFree g k
free_at g m k root rests =
    record {
      pends = λ r t i is. (let p = (root.pends k r t i is).is in cc);
      opens = λ r h is. (let o = root.opens k r h is in cc);
    }

-- first part: the seat is in the call of its turn
pub opens_call : (c : Setup) (opening : List (List ℕ)) (events : List history.Event) (begun : ℕ → ℕ) (placer : ℕ → ℕ → PutName) (m : Machine) (g : Ghost)
    (k : ℕ) (turn : Phase) → IsTied c opening events begun placer (stance m) (calls_of m) g → IsRooted g m → (turn ≡ Idle → ⊥)
    → (turn ≡ (m.part k).phase) ⊎ (((m.part k).phase ≡ Idle) × ((m.part k).spent ≡ None) × Begins c (m.part k).hand turn)
    → IsTied c opening (events ++ starts k (m.part k).phase turn) (puts_after k (m.part k).phase turn begun) placer (updated (stance m) k (stance_of turn))
    (calls_of m) g
opens_call c opening events begun placer m g k turn tied root awake_turn from =
    elim from [
      | inl same ↦
          let same_stance : updated (stance m) k (stance_of turn) ≡ stance m = rw same (updated_same (stance m) k) in
          let none : starts k (m.part k).phase turn ≡ [] = rw (← same) (starts_none k turn awake_turn) in
          let still : puts_after k (m.part k).phase turn begun ≡ begun = rw (← same) (puts_none k turn begun awake_turn) in
          rw (same_stance, none, still, append-nil) tied
      | inr new ↦
          let rests : stance m k ≡ resting = ap stance_of new.0 in
          rw new.0 (first turn new.2 rests)
    ]
  where
    first : (t : Phase) → Begins c (m.part k).hand t → stance m k ≡ resting
        → IsTied c opening (events ++ starts k Idle t) (puts_after k Idle t begun) placer (updated (stance m) k (stance_of t)) (calls_of m) g
    first t (begins_put r i w ring index held) rests =
        tied_put c opening events begun placer (stance m) (calls_of m) g tied k r i w rests (free_at g m k root rests)
    first t (begins_get r ring) rests = tied_get c opening events begun placer (stance m) (calls_of m) g tied k r rests (free_at g m k root rests)

-- an event adds to its seat's record what it ends, and to no other's
calls_more : (c : Setup) (g : Ghost) (m : Machine) (k : ℕ) (n : Machine) (e : TicketEvent) → EventFacts c m g k e n
    → calls_of n k ≡ calls_of m k + length (ended_by e)
calls_more c g m k n e d = ap length d.calls ∙ length-append (m.part k).calls (ended_by e)

calls_rise : (c : Setup) (g : Ghost) (m : Machine) (k : ℕ) (n : Machine) (e : TicketEvent) → EventFacts c m g k e n → (j : ℕ) → calls_of m j ≤ calls_of n j
calls_rise c g m k n e d j =
    elim (cases_eq j k) [
      | inl same ↦ let more = calls_more c g m k n e d in rw same (omega arith)
      | inr other ↦ let keeps : calls_of n j ≡ calls_of m j = ap (λ (p : SeatPart). length p.calls) (d.others j other) in omega arith
    ]

-- second part: what the event does
module _ (c : Setup) (opening : List (List ℕ)) (full : length opening ≡ n_of c.order) (events : List history.Event) (begun : ℕ → ℕ) (placer : ℕ → ℕ → PutName)
    (time : ℕ) (g : Ghost) (m : Machine) (k : ℕ) (n : Machine) (s : Stance)
    (tied : IsTied c opening events begun placer (updated (stance m) k s) (calls_of m) g) (root : IsRooted g m) (records : RecordsAgree c g m)
    (reach : IsReached c g m) (own : (stance m k ≡ s) ⊎ (stance m k ≡ resting)) where
  abbrev now : ℕ → Stance
  now = updated (stance m) k s

  here : now k ≡ s
  here = updated_here (stance m) k s

  abbrev Goal : TicketEvent → Type 0
  Goal e = IsTied c opening (events ++ ends_by k (placer_by e k begun placer) (ended_by e)) begun (placer_by e k begun placer) (updated now k (stance_by e s))
      (calls_of n) (ghost_next time g m k e)

  -- no End is recorded
  quiet : (x : ℕ → Stance) (p : ℕ → ℕ → PutName) (h : Ghost) → IsTied c opening events begun p x (calls_of n) h
      → IsTied c opening (events ++ []) begun p x (calls_of n) h
  quiet x p h is = rw append-nil is

  -- what the seat is doing
  doing : (z : Stance) → s ≡ z → Doing events (begun k) k z
  doing z is = rw (here ∙ is) at (tied.called.doing k)

  free_after : (e : TicketEvent) → EventStep c time g m k e n → IsRooted (ghost_next time g m k e) n → stance_by e (stance m k) ≡ resting
      → IsFree (ghost_next time g m k e) k
  free_after e event_step later rests = free_at (ghost_next time g m k e) n k later (event_step.event_facts.stance ∙ rests)

  -- a get goes on in another stance, without a ticket that changes
  goes_on : (e : TicketEvent) (z : Stance) → EventStep c time g m k e n → Doing events (begun k) k z → due z ≡ 0
      → ((r i t : ℕ) (w : List ℕ) → z ≢ landed r i w t) → ((r h : ℕ) → z ≡ gave_up r h true → Emptying opening events placer g.puts g.gets tied.since k r)
      → IsTied c opening (events ++ []) begun placer (updated now k z) (calls_of n) g
  goes_on e z event_step does none other leave =
      quiet (updated now k z) placer g
      (tied_on c opening events begun placer now (calls_of m) g tied k z (calls_of n) does (rw none (omega arith))
      (calls_rise c g m k n e event_step.event_facts)
      (λ r i t w at. absurd (other r i t w at)) leave)

  -- a get ends with Nothing
  get_ends : (e : TicketEvent) (r : ℕ) → EventStep c time g m k e n → GetsNow events k r → IsFree g k
      → Emptying opening events placer g.puts g.gets tied.since k r
      → IsTied c opening (events ++ End k Nothing ∷ []) begun placer (updated now k resting) (calls_of n) g
  get_ends e r event_step does free sees =
      tied_end c opening events begun placer now (calls_of m) g tied k Nothing (calls_of n) (get_answer events k r Nothing does tt) (λ x. cc) (λ name y x. cc)
      free (calls_rise c g m k n e event_step.event_facts)
      (λ same.
      record {
        r = r;
        s = does.s;
        m = sees.m;
        starts = kept_at events (End k Nothing) does.s _ does.starts;
        under = under_old events (End k Nothing) k (length events) (omega arith) ∙ does.under;
        after = sees.after does.s does.under;
        till = sees.low;
        passed = λ name is. sees.passed name (finished_old opening events (End k Nothing) r sees.m name sees.low is);
      })

  pub tied_event : (e : TicketEvent) → EventStep c time g m k e n → IsRooted (ghost_next time g m k e) n
      → ((r : ℕ) → DecidesEmpty m k e r → (p : ℕ) → IsFinished c m r p → p < m.cells.head r) → Within e s → Goal e
  tied_event calm event_step later decided is =
      quiet (updated now k s) placer g
      (tied_on c opening events begun placer now (calls_of m) g tied k s (calls_of n) (doing s refl) (rw here (omega arith))
      (calls_rise c g m k n calm event_step.event_facts) (λ r i t w at. tied.lands k r i t w (here ∙ at)) (λ r h at. tied.emptied.leaves k r h (here ∙ at)))
  tied_event (drew r i w t) event_step later decided is =
      let p = event_step.event_facts.proper in
      let at_tail = p.at_tail in
      quiet (updated now k (putting r i w t)) placer (ghost_next time g m k (drew r i w t))
      (tied_drew c opening events begun placer now (calls_of m) g tied k r i w t (calls_of n) (here ∙ is) p.fresh
      (λ u le. event_step.base.drawn.tails r u (omega arith)) (calls_rise c g m k n (drew r i w t) event_step.event_facts))
  tied_event (fell r i w t found) event_step later decided is =
      let p = event_step.event_facts.proper in
      quiet (updated now k (drawing r i w)) placer (ghost_next time g m k (fell r i w t found))
      (tied_fell c opening events begun placer now (calls_of m) g tied k r i w t time found (calls_of n) (here ∙ is) p.pending
      (calls_rise c g m k n (fell r i w t found) event_step.event_facts))
  tied_event (laid r i w t) event_step later decided is =
      let p = event_step.event_facts.proper in
      quiet (updated now k (landed r i w t)) (placer_by (laid r i w t) k begun placer) (ghost_next time g m k (laid r i w t))
      (tied_laid c opening events begun placer now (calls_of m) g tied k r i w t (calls_of m k) (calls_of n) (here ∙ is) p.pending
      (λ j q x u y at. elim (cases_eq j k) [
        | inl same ↦ let own : putting r i w t ≡ landed q x y u = sym is ∙ sym here ∙ ap now (sym same) ∙ at in absurd (cc)
        | inr other ↦
            let old : stance m j ≡ landed q x y u = sym (updated_else (stance m) k s j other) ∙ at in
            let claim : g.puts q u ≡ placed x y (call_of j (calls_of m j)) = rw old at (event_step.base.claims j) in
            ap is_placed claim
      ])
      (calls_rise c g m k n (laid r i w t) event_step.event_facts))
  tied_event (finished r i w t) event_step later decided is =
      let p = event_step.event_facts.proper in
      let more = calls_more c g m k n (finished r i w t) event_step.event_facts in
      tied_done c opening events begun placer now (calls_of m) g tied k r i w t (calls_of n) (here ∙ is) p.placed
      (free_after (finished r i w t) event_step later refl) (calls_rise c g m k n (finished r i w t) event_step.event_facts) (omega arith)
  tied_event (entered r) event_step later decided is =
      goes_on (entered r) (seeking r) event_step (doing (asking r) is) refl (λ q i t w at. cc) (λ q u at. absurd (cc))
  tied_event (refused r) event_step later decided is =
      let does = doing (asking r) is in
      get_ends (refused r) r event_step does (free_after (refused r) event_step later refl)
      (emptying c opening full events begun placer g m k now tied records reach event_step.base r (decided r (by_refusal r)) does)
  tied_event (began r h) event_step later decided is =
      let p = event_step.event_facts.proper in
      let at_head = p.at_head in
      quiet (updated now k (trying r h)) placer (ghost_next time g m k (began r h))
      (tied_began c opening events begun placer now (calls_of m) g tied k r h (calls_of n) (here ∙ is) (λ u le. event_step.base.drawn.heads r u (omega arith))
      (calls_rise c g m k n (began r h) event_step.event_facts))
  tied_event (died r h) event_step later decided is =
      let p = event_step.event_facts.proper in
      quiet (updated now k (gave_up r h false)) placer (ghost_next time g m k (died r h))
      (tied_died c opening events begun placer now (calls_of m) g tied k r h (calls_of n) (here ∙ is) p.opened
      (calls_rise c g m k n (died r h) event_step.event_facts))
  tied_event (saw_end r h) event_step later decided is =
      let does = doing (gave_up r h false) is in
      let sees = emptying c opening full events begun placer g m k now tied records reach event_step.base r (decided r (by_end r h)) does in
      goes_on (saw_end r h) (gave_up r h true) event_step does refl (λ q i t w at. cc)
      (λ q u at. let ring : r ≡ q = cc in subst (λ z. Emptying opening events placer g.puts g.gets tied.since k z) ring sees)
  tied_event (lifted r h to) event_step later decided is =
      goes_on (lifted r h to) (gave_up r h true) event_step (doing (gave_up r h true) is) refl (λ q i t w at. cc)
      (λ q u at. let ring : r ≡ q = cc in subst (λ z. Emptying opening events placer g.puts g.gets tied.since k z) ring (tied.emptied.leaves k r h (here ∙ is)))
  tied_event (taken r h i w) event_step later decided is =
      let p = event_step.event_facts.proper in
      let free = free_after (taken r h i w) event_step later refl in
      tied_taken c opening events begun placer now (calls_of m) g tied k r h i w p.maker (calls_of m k) (calls_of n) (here ∙ is) p.opened
      (λ q u at. let mine = root.opens k q u at in let was = p.was in let same : trying q u ≡ trying r h = sym mine ∙ was in
      (let ring : q ≡ r = cc in ring, let ticket : u ≡ h = cc in ticket))
      p.placed
      (λ q t x at. free.pends q t x at)
      (calls_rise c g m k n (taken r h i w) event_step.event_facts)
  tied_event (lowered r h) event_step later decided is =
      goes_on (lowered r h) (seeking r) event_step (doing (gave_up r h false) is) refl (λ q i t w at. cc) (λ q u at. absurd (cc))
  tied_event (emptied r h) event_step later decided is =
      let free = free_after (emptied r h) event_step later refl in
      elim is [
        | inl a ↦ get_ends (emptied r h) r event_step (doing (gave_up r h true) a) free (tied.emptied.leaves k r h (here ∙ a))
        | inr a ↦
            let stands : stance m k ≡ gave_up r h false =
            elim event_step.event_facts.proper.was [
              | inl left ↦ elim own [ inl same ↦ absurd (cc) | inr rests ↦ absurd (cc) ]
              | inr low ↦ low.0
            ] in
            let does = doing (gave_up r h false) a in
            get_ends (emptied r h) r event_step does free
            (emptying c opening full events begun placer g m k now tied records reach event_step.base r (decided r (by_level r h stands)) does)
      ]
  tied_event (overran r t true) event_step later decided is =
      let does : PutsNow events (begun k) k r is.1 = doing (drawing r is.0 is.1) is.2 in
      tied_end c opening events begun placer now (calls_of m) g tied k Spent (calls_of n) (put_answer events (begun k) k r is.1 Spent does tt) (λ x. cc)
      (λ name y x. cc) (free_after (overran r t true) event_step later refl) (calls_rise c g m k n (overran r t true) event_step.event_facts)
      (λ same. absurd (cc))
  tied_event (overran r h false) event_step later decided is =
      tied_end c opening events begun placer now (calls_of m) g tied k Spent (calls_of n) (get_answer events k r Spent (doing (seeking r) is) tt) (λ x. cc)
      (λ name y x. cc) (free_after (overran r h false) event_step later refl) (calls_rise c g m k n (overran r h false) event_step.event_facts)
      (λ same. absurd (cc))
