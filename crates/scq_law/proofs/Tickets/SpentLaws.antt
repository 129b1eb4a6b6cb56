-- The ticket that a seat keeps is that of its last call. Plan: a seat whose step is enabled keeps no ticket, and only the
-- event that ends its call with Spent gives it one.
use Rattle.std.proofs.Common.{◌≡◌, ℕ, ◌<◌, Bool, true, false, refl, inl, inr, ap, sym, ◌∙◌}
use Rattle.std.specs.Prelude.{Option, Some, None}
use Rattle.std.specs.List.{Contains}
use Rattle.std.proofs.lemmas.Bool.{cases_eq, cases_lt}
use Rattle.std.proofs.lemmas.List.Elements.{Contains-push}
use Rattle.scq_word.specs.declared.setup.Setup.{Setup}
use Rattle.scq_core.specs.declared.ended.Ended.TheVariants.{Spent}
use Rattle.scq_core.specs.Exports.{SeatPart, moved, IsReachable}
use Rattle.scq_core.specs.Machine.{Machine}
use Rattle.scq_core.proofs.Steady.{keeps_none}
use Rattle.scq_word.specs.Exports.{ticket_bound}
use Rattle.scq_law.specs.Exports.{enqueues, EndedSpent, SpentKept}
use Rattle.scq_law.proofs.Base.Ghosts.{Ghost}
use Rattle.scq_law.proofs.Base.TicketEvents.{TicketEvent, overran, ended_by}
use Rattle.scq_law.proofs.Base.EventFacts.{EventFacts}
use Rattle.scq_law.proofs.Base.Traces.{Trace, trace_start, trace_step, has_trace, event_of}
use Rattle.scq_law.proofs.Base.Based.{based}
use Rattle.scq_law.proofs.Base.EventSteps.{event_step}
use Rattle.scq_law.proofs.Base.SeatSums.{contains_none, contains_one}
use Rattle.scq_law.proofs.Tickets.SpentTickets.{overrun, spent_back, ends_otherwise, none_spent}

-- the seat's last call ended with Spent and this ticket
abbrev IsLast : SeatPart → ℕ → Type 0
IsLast p t = (r : ℕ) × EndedSpent p r t

-- a kept ticket is that of the seat's last call, and a call that ended with Spent is followed by none
record KeepsLast (m : Machine) : Type 0 where
  last : (k t : ℕ) → (m.part k).spent ≡ Some t → IsLast (m.part k) t
  kept : (k r t : ℕ) (b : Bool) → Contains (m.part k).calls (Spent r t b) → (m.part k).spent ≡ Some t

-- the seat's own part after its event, where it kept none before
own_last : (c : Setup) (g : Ghost) (m : Machine) (k : ℕ) (e : TicketEvent) (n : Machine) → EventFacts c m g k e n → (m.part k).spent ≡ None → (t : ℕ)
    → (n.part k).spent ≡ Some t → IsLast (n.part k) t
own_last c g m k (overran r u b) n event_facts none t keeps =
    let same : u ≡ t = let both : Some u ≡ Some t = sym event_facts.kept ∙ keeps in cc in
    (r, rw (← same) (record { before = (m.part k).calls; is_put = b; calls = event_facts.calls }))
own_last c g m k e n event_facts none t keeps = absurd (let clash : ◌≡◌ {A = Option ℕ} None (Some t) = sym none ∙ sym event_facts.kept ∙ keeps in cc)

own_kept : (c : Setup) (g : Ghost) (m : Machine) (k : ℕ) (e : TicketEvent) (n : Machine) → EventFacts c m g k e n → (r t : ℕ) (b : Bool)
    → Contains (ended_by e) (Spent r t b) → (n.part k).spent ≡ Some t
own_kept c g m k (overran q u v) n event_facts r t b has =
    let same : Spent q u v ≡ Spent r t b = contains_one (Spent q u v) (Spent r t b) has in
    let ticket : u ≡ t = cc in
    event_facts.kept ∙ ap Some ticket
own_kept c g m k e n event_facts r t b has = absurd (ends_otherwise e r t b refl has)

keeps_step : (c : Setup) (g : Ghost) (m : Machine) (k : ℕ) (e : TicketEvent) (n : Machine) → EventFacts c m g k e n → (m.part k).spent ≡ None → KeepsLast m
    → KeepsLast n
keeps_step c g m k e n event_facts none was =
    record {
      last =
          λ j t keeps.
          elim (cases_eq j k) [
            | inl same ↦ rw same (own_last c g m k e n event_facts none t (rw same at keeps))
            | inr other ↦ rw (event_facts.others j other) (was.last j t (rw (event_facts.others j other) at keeps))
          ];
      kept =
          λ j r t b has.
          elim (cases_eq j k) [
            | inl same ↦
                let mine : Contains (n.part k).calls (Spent r t b) = rw same at has in
                elim (spent_back c g m k e n event_facts k (Spent r t b) mine) [
                  | inl old ↦
                      let clash : ◌≡◌ {A = Option ℕ} None (Some t) = sym none ∙ was.kept k r t b old in absurd (cc)
                  | inr new ↦ rw same (own_kept c g m k e n event_facts r t b new)
                ]
            | inr other ↦
                rw (event_facts.others j other) (was.kept j r t b (rw (event_facts.others j other) at has))
          ];
    }

keeps_last : (c : Setup) (time : ℕ) (g : Ghost) (m : Machine) → Trace c time g m → KeepsLast m
keeps_last c time g m (trace_start opening full) =
    record {
      last = λ k t keeps. absurd (let clash : ◌≡◌ {A = Option ℕ} None (Some t) = keeps in cc);
      kept = λ k r t b has. absurd (contains_none (Spent r t b) has);
    }
keeps_last c time g m (trace_step {time = u} {g = h} {m = old} k s turn trace low enabled) =
    let base = based c u h old trace in
    let sc = event_step c u h old k s turn low enabled base in
    let none = keeps_none c old k s turn base.steady enabled in
    keeps_step c h old k (event_of c old turn) (moved c old k turn) sc.event_facts none (keeps_last c u h old trace)

-- a call that ended so was on one of the rings
spent_ring : (c : Setup) (time : ℕ) (g : Ghost) (m : Machine) → Trace c time g m → (k r t : ℕ) (b : Bool) → Contains (m.part k).calls (Spent r t b)
    → r < c.rings
spent_ring c time g m trace k r t true has = ((overrun c time g m trace).puts k r t has).ring
spent_ring c time g m trace k r t false has = ((overrun c time g m trace).gets k r t has).ring

-- whose bound is past the limit
spent_bound : (c : Setup) (m : Machine) (k r t : ℕ) (b : Bool) → IsReachable c m → Contains (m.part k).calls (Spent r t b)
    → c.limit < ticket_bound c.order c.seats (enqueues c m r)
spent_bound c m k r t b reach has =
    elim (cases_lt c.limit (ticket_bound c.order c.seats (enqueues c m r))) [
      | inl past ↦ past
      | inr within ↦ absurd ((none_spent c m reach).none r within k t b has)
    ]

pub spent_kept : (c : Setup) (m : Machine) → IsReachable c m → SpentKept c m
spent_kept c m reach =
    let s = has_trace c m reach in
    let ties = keeps_last c s.time s.ghost m s.trace in
    record {
      last = λ k t keeps.
          let ended = ties.last k t keeps in
          let r = ended.0 in
          let e = ended.1 in
          let has : Contains (m.part k).calls (Spent r t e.is_put) = rw e.calls (Contains-push e.before (Spent r t e.is_put)) in
          (r, e, spent_ring c s.time s.ghost m s.trace k r t e.is_put has, spent_bound c m k r t e.is_put reach has);
      kept = ties.kept;
    }
