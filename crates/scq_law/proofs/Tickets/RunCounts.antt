-- In each state of a run Head with Threshold is within what gets, attempts in flight, kept tickets and resets come to.
use Rattle.std.proofs.Common.{◌≡◌, ◌≢◌, ℕ, ◌+◌, ◌*◌, ◌≤◌, ◌⊎◌, Bool, true, false, List, length, refl, inl, inr, ap, sym, ◌∙◌, arith}
use Rattle.std.specs.Prelude.{Option, Some, None}
use Rattle.scq_word.specs.declared.setup.Setup.{Setup}
use Rattle.scq_word.specs.Exports.{n_of, reset_value}
use Rattle.scq_core.specs.declared.ended.Ended.{Ended}
use Rattle.scq_core.specs.Exports.{SeatPart, updated, ring_slots, reset_level, start_of, IsReachable, at_start, total, spent_of, Stance, resting}
use Rattle.scq_core.specs.Exports.{seeking, stance_of}
use Rattle.scq_core.specs.Machine.{Machine}
use Rattle.scq_core.proofs.UpdatedLemmas.{updated_or}
use Rattle.scq_core.proofs.Fits.{words_fit}
use Rattle.scq_core.proofs.Floor.{threshold_floor}
use Rattle.scq_law.specs.Exports.{tally, was_done, was_got}
use Rattle.scq_law.proofs.Base.Ghosts.{Ghost, start_ghost}
use Rattle.scq_law.proofs.Base.TicketEvents.{TicketEvent, finished, overran, ended_by}
use Rattle.scq_law.proofs.Base.EventFacts.{stance, EventFacts}
use Rattle.scq_law.proofs.Base.Traces.{Trace, trace_start, trace_step}
use Rattle.scq_law.proofs.Base.Based.{IsBased}
use Rattle.scq_law.proofs.Base.EventSteps.{EventStep, ghost_next}
use Rattle.scq_law.proofs.Base.RunInduction.{follow}
use Rattle.scq_law.proofs.Base.SeatSums.{total_change, tally-append}
use Rattle.scq_law.proofs.Replays.RecordedRuns.{turn_reaches}
use Rattle.scq_law.proofs.Threshold.FinishedPlaced.{is_finish}
use Rattle.scq_law.proofs.Threshold.Covering.{here_one, there_none, flying}
use Rattle.scq_law.proofs.Tickets.EventCounts.{spend_event}

-- a state of a run is reachable
pub trace_reaches : (c : Setup) (time : ℕ) (g : Ghost) (m : Machine) → Trace c time g m → IsReachable c m
trace_reaches c time g m (trace_start opening full) = at_start opening full
trace_reaches c time g m (trace_step {time = t} {g = h} {m = old} k s turn trace low enabled) =
    turn_reaches c old k s turn low enabled (trace_reaches c t h old trace)

-- what a seat counts for: its ended puts; its gets that took, its attempt in flight and its kept ticket
abbrev pub done_of : ℕ → SeatPart → ℕ
done_of r p = tally (was_done r) p.calls

abbrev pub spend_of : ℕ → SeatPart → ℕ
spend_of r p = tally (was_got r) p.calls + (flying r (stance_of p.phase) + spent_of p.spent)

pub record IsTallied (c : Setup) (time : ℕ) (g : Ghost) (m : Machine) : Type 0 where
  pub spends : (r : ℕ)
      → m.cells.head r + m.cells.threshold r ≤ ring_slots c + total (spend_of r) m.part c.seats + total (done_of r) m.part
      c.seats * (reset_value c.order c.seats + c.seats) + reset_level c

-- a tally of the seat's calls after the event
pub calls_then : (f : Ended → ℕ) (c : Setup) (g : Ghost) (m : Machine) (k : ℕ) (e : TicketEvent) (n : Machine) → EventFacts c m g k e n
    → tally f (n.part k).calls ≡ tally f (m.part k).calls + tally f (ended_by e)
calls_then f c g m k e n event_facts = ap (tally f) event_facts.calls ∙ tally-append f (m.part k).calls (ended_by e)

tallied_start : (c : Setup) (opening : List (List ℕ)) → length opening ≡ n_of c.order → IsTallied c 0 (start_ghost c opening) (start_of c opening)
tallied_start c opening full =
    let reach : IsReachable c (start_of c opening) = at_start opening full in
    record {
      spends = λ r. let ceiling = (threshold_floor c (start_of c opening) reach).ceiling r in omega arith;
    }

-- a seat that draws a ticket past the limit keeps none yet
keeps_none : (c : Setup) (g : Ghost) (m : Machine) (k : ℕ) → IsBased c g m → (s : Stance) → stance m k ≡ s → s ≢ resting → spent_of (m.part k).spent ≡ 0
keeps_none c g m k base s is busy = go (m.part k).spent refl
  where
    go : (o : Option ℕ) → (m.part k).spent ≡ o → spent_of (m.part k).spent ≡ 0
    go None none = ap spent_of none
    go (Some t) kept = let idle = base.steady.kept k t kept in absurd (busy (sym is ∙ ap stance_of idle.0))

keeps_before : (c : Setup) (time : ℕ) (g : Ghost) (m : Machine) (k : ℕ) (e : TicketEvent) (n : Machine) → EventStep c time g m k e n
    → (spent_of (m.part k).spent ≡ 0) ⊎ ((q t : ℕ) (b : Bool) → e ≢ overran q t b)
keeps_before c time g m k (overran q t true) n event_step =
    elim event_step.event_facts.proper.was [
      | inl rests ↦ inl (ap spent_of rests.keeps)
      | inr was ↦ inl (keeps_none c g m k event_step.base _ was.2 (λ is. absurd (cc)))
    ]
keeps_before c time g m k (overran q t false) n event_step =
    inl (keeps_none c g m k event_step.base (seeking q) event_step.event_facts.proper.was (λ is. absurd (cc)))
keeps_before c time g m k e n event_step = inr (λ q t b is. absurd (cc))

-- more resets allow for more
one_more : (d x : ℕ) → (d + 1) * x ≡ d * x + x
one_more d x = grind arith

-- an event that ends no put
spends_on : (c : Setup) (time : ℕ) (g : Ghost) (m : Machine) (k : ℕ) (e : TicketEvent) (n : Machine) → Trace c time g m → EventStep c time g m k e n
    → is_finish e ≡ false → IsTallied c time g m → (r : ℕ) → total (done_of r) n.part c.seats ≡ total (done_of r) m.part c.seats
    → n.cells.head r + n.cells.threshold r ≤ ring_slots c + total (spend_of r) n.part c.seats + total (done_of r) n.part
    c.seats * (reset_value c.order c.seats + c.seats) + reset_level c
spends_on c time g m k e n trace event_step not was r same =
    let fits = words_fit c m (trace_reaches c time g m trace) in
    let sum = total_change (spend_of r) m.part n.part k c.seats event_step.low event_step.event_facts.others in
    let calls = calls_then (was_got r) c g m k e n event_step.event_facts in
    let own = spend_event c time g m k e n event_step (λ q. let some = fits.threshold q in some.0) (keeps_before c time g m k e n event_step) not r in
    let adds = own.adds in
    let before = was.spends r in
    rw same (omega arith)

-- no other event ends a put
ended_done : (r : ℕ) (e : TicketEvent) → is_finish e ≡ false → tally (was_done r) (ended_by e) ≡ 0
ended_done r (finished q i w t) not = absurd (cc)
ended_done r e not = refl

-- the puts that ended, after an event
dones_move : (c : Setup) (time : ℕ) (g : Ghost) (m : Machine) (k : ℕ) (e : TicketEvent) (n : Machine) → EventStep c time g m k e n → (r : ℕ)
    → total (done_of r) n.part c.seats ≡ total (done_of r) m.part c.seats + tally (was_done r) (ended_by e)
dones_move c time g m k e n event_step r =
    let sum = total_change (done_of r) m.part n.part k c.seats event_step.low event_step.event_facts.others in
    let calls = calls_then (was_done r) c g m k e n event_step.event_facts in
    omega arith

-- the event that ends one
spends_reset : (c : Setup) (time : ℕ) (g : Ghost) (m : Machine) (k q i : ℕ) (w : List ℕ) (t : ℕ) (n : Machine) → Trace c time g m
    → EventStep c time g m k (finished q i w t) n → IsTallied c time g m → (r : ℕ)
    → n.cells.head r + n.cells.threshold r ≤ ring_slots c + total (spend_of r) n.part c.seats + total (done_of r) n.part
    c.seats * (reset_value c.order c.seats + c.seats) + reset_level c
spends_reset c time g m k q i w t n trace event_step was r =
    let d = event_step.event_facts in
    let floor = (threshold_floor c m (trace_reaches c time g m trace)).floor r in
    let dones = dones_move c time g m k (finished q i w t) n event_step r in
    let sum = total_change (spend_of r) m.part n.part k c.seats event_step.low d.others in
    let calls = calls_then (was_got r) c g m k (finished q i w t) n d in
    let before : flying r (stance m k) ≡ 0 = ap (flying r) d.proper.was in
    let after : flying r (stance n k) ≡ 0 = ap (flying r) d.stance in
    let kept : spent_of (n.part k).spent ≡ spent_of (m.part k).spent = ap spent_of d.kept in
    let same : total (spend_of r) n.part c.seats ≡ total (spend_of r) m.part c.seats = omega arith in
    let old = was.spends r in
    let head : n.cells.head r ≡ m.cells.head r = ap (λ (f : ℕ → ℕ). f r) d.head in
    let level : n.cells.threshold r ≡ updated m.cells.threshold q (reset_level c) r = ap (λ (f : ℕ → ℕ). f r) d.threshold in
    elim (updated_or m.cells.threshold q (reset_level c) r) [
      | inl a ↦
          let one = here_one q r a.0 in
          let reset = a.1 in
          let more : total (done_of r) n.part c.seats ≡ total (done_of r) m.part c.seats + 1 = omega arith in
          let product = one_more (total (done_of r) m.part c.seats) (reset_value c.order c.seats + c.seats) in
          rw more (omega arith)
      | inr a ↦
          let none = there_none q r a.0 in
          let still = a.1 in
          let no_more : total (done_of r) n.part c.seats ≡ total (done_of r) m.part c.seats = omega arith in
          rw no_more (omega arith)
    ]

tallied_step : (c : Setup) (time : ℕ) (g : Ghost) (m : Machine) (k : ℕ) (e : TicketEvent) (n : Machine) → Trace c time g m → EventStep c time g m k e n
    → IsTallied c time g m → IsTallied c (time + 1) (ghost_next time g m k e) n
tallied_step c time g m k (finished q i w t) n trace event_step was =
    record { spends = spends_reset c time g m k q i w t n trace event_step was }
tallied_step c time g m k e n trace event_step was =
    record {
      spends =
          λ r.
          let dones = dones_move c time g m k e n event_step r in
          let none = ended_done r e refl in
          spends_on c time g m k e n trace event_step refl was r (omega arith);
    }

pub tallied : (c : Setup) (time : ℕ) (g : Ghost) (m : Machine) → Trace c time g m → IsTallied c time g m
tallied c = follow c (IsTallied c) (tallied_start c) (tallied_step c)
