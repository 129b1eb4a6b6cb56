-- Rings out of range have no tickets, each ticket below Head that is a turn has been drawn by a get, and seats out of
-- range have never moved.
use Rattle.std.proofs.Common.{◌≡◌, ◌≢◌, ℕ, ◌+◌, ◌<◌, ◌≤◌, true, false, inl, inr, refl, sym, ◌∙◌, arith, List, length}
use Rattle.scq_word.specs.declared.setup.Setup.{Setup}
use Rattle.scq_core.specs.Machine.{Machine}
use Rattle.scq_core.specs.Exports.{ring_slots, start_of, idle_part, putting}
use Rattle.scq_core.proofs.UpdatedLemmas.{updated_entry_or, updated_entry_cases, updated_or}
use Rattle.scq_law.specs.Exports.{call_of}
use Rattle.scq_law.proofs.Base.Ghosts.{Ghost, PutState, GetState, fresh, pending, failed, placed, unopened, opened, dead, took, start_ghost, with_put, with_get}
use Rattle.scq_law.proofs.Base.TicketEvents.{TicketEvent, drew, fell, laid, began, died, taken, overran}
use Rattle.scq_law.proofs.Base.EventFacts.{EventFacts}
use Rattle.scq_law.proofs.Base.StartTickets.{stands_at}
use Rattle.scq_law.proofs.Base.EventSteps.{EventStep, ghost_next}
use Rattle.scq_law.proofs.Base.SeatStances.{stance_has}

pub record IsReached (c : Setup) (g : Ghost) (m : Machine) : Type 0 where
  pub rings : (r t : ℕ) → c.rings ≤ r → g.puts r t ≡ fresh
  pub reached : (r h : ℕ) → ring_slots c ≤ h → h < m.cells.head r → h < c.limit → g.gets r h ≡ unopened → ⊥
  pub absent : (k : ℕ) → c.seats ≤ k → m.part k ≡ idle_part

pub reached_start : (c : Setup) (opening : List (List ℕ)) → IsReached c (start_ghost c opening) (start_of c opening)
reached_start c opening =
    let rings = c.rings_in_range in
    record {
      rings =
          λ r t high. elim (stands_at c opening r t) [ inl s ↦ let ring = s.ring in absurd (omega arith) | inr s ↦ s.is ];
      reached = λ r h first below low is. omega arith;
      absent = λ k high. refl;
    }

-- no new put in a ring out of range
rings_put : (c : Setup) (g : Ghost) (r t : ℕ) (x : PutState) → r < c.rings → ((q u : ℕ) → c.rings ≤ q → g.puts q u ≡ fresh) → (q u : ℕ) → c.rings ≤ q
    → (with_put g r t x).puts q u ≡ fresh
rings_put c g r t x low old q u high =
    updated_entry_cases (λ _ _ v. v ≡ fresh) g.puts r t x q u (λ ring ticket. absurd (omega arith)) (λ _. old q u high)

-- a ticket of a get that changes is no fresh one afterwards
reached_get : (c : Setup) (head : ℕ → ℕ) (g : Ghost) (r h : ℕ) (x : GetState) → x ≢ unopened
    → ((q u : ℕ) → ring_slots c ≤ u → u < head q → u < c.limit → g.gets q u ≡ unopened → ⊥) → (q u : ℕ) → ring_slots c ≤ u → u < head q → u < c.limit
    → (with_get g r h x).gets q u ≡ unopened → ⊥
reached_get c head g r h x not old q u first below low is =
    elim (updated_entry_or g.gets r h x q u) [
      | inl a ↦ not (sym a.2 ∙ is)
      | inr a ↦ old q u first below low (sym a.1 ∙ is)
    ]

absent_stay : (c : Setup) (m : Machine) (g : Ghost) (k : ℕ) (e : TicketEvent) (n : Machine) → k < c.seats → EventFacts c m g k e n
    → ((j : ℕ) → c.seats ≤ j → m.part j ≡ idle_part) → (j : ℕ) → c.seats ≤ j → n.part j ≡ idle_part
absent_stay c m g k e n low event_facts old j high = event_facts.others j (λ same. omega arith) ∙ old j high

pub reached_step : (c : Setup) (time : ℕ) (g : Ghost) (m : Machine) (k : ℕ) (e : TicketEvent) (n : Machine) → EventStep c time g m k e n → IsReached c g m
    → IsReached c (ghost_next time g m k e) n
reached_step c time g m k (drew r i w t) n event_step old =
    let d = event_step.event_facts in
    record {
      rings = rings_put c g r t (pending k i) d.proper.ring old.rings;
      reached = rw d.head old.reached;
      absent = absent_stay c m g k (drew r i w t) n event_step.low d old.absent;
    }
reached_step c time g m k (fell r i w t found) n event_step old =
    let d = event_step.event_facts in
    let has = stance_has c g m k (putting r i w t) event_step.base d.proper.was in
    let offers = has.0 in
    record {
      rings = rings_put c g r t (failed time i found) offers.ring old.rings;
      reached = rw d.head old.reached;
      absent = absent_stay c m g k (fell r i w t found) n event_step.low d old.absent;
    }
reached_step c time g m k (laid r i w t) n event_step old =
    let d = event_step.event_facts in
    let has = stance_has c g m k (putting r i w t) event_step.base d.proper.was in
    let offers = has.0 in
    record {
      rings = rings_put c g r t (placed i w (call_of k (length (m.part k).calls))) offers.ring old.rings;
      reached = rw d.head old.reached;
      absent = absent_stay c m g k (laid r i w t) n event_step.low d old.absent;
    }
reached_step c time g m k (began r h) n event_step old =
    let d = event_step.event_facts in
    record {
      rings = old.rings;
      reached =
          λ q u first below low is.
          elim (updated_entry_or g.gets r h (opened k) q u) [
            | inl a ↦ let clash : opened k ≡ unopened = sym a.2 ∙ is in absurd (cc)
            | inr a ↦
                elim (updated_or m.cells.head r (h + 1) q) [
                  | inl b ↦
                      let at = d.proper.at_head in
                      let below_next : u < h + 1 = rw (d.head, b.1) at below in
                      let apart : u ≢ h = λ same. a.0 b.0 same in
                      let under : u < m.cells.head q = rw b.0 (omega arith) in
                      old.reached q u first under low (sym a.1 ∙ is)
                  | inr b ↦
                      let under : u < m.cells.head q = rw (d.head, b.1) at below in
                      old.reached q u first under low (sym a.1 ∙ is)
                ]
          ];
      absent = absent_stay c m g k (began r h) n event_step.low d old.absent;
    }
reached_step c time g m k (died r h) n event_step old =
    let d = event_step.event_facts in
    record {
      rings = old.rings;
      reached = reached_get c n.cells.head g r h dead (λ is. cc) (rw d.head old.reached);
      absent = absent_stay c m g k (died r h) n event_step.low d old.absent;
    }
reached_step c time g m k (taken r h i w) n event_step old =
    let d = event_step.event_facts in
    record {
      rings = old.rings;
      reached = reached_get c n.cells.head g r h (took k (length (m.part k).calls)) (λ is. cc) (rw d.head old.reached);
      absent = absent_stay c m g k (taken r h i w) n event_step.low d old.absent;
    }
reached_step c time g m k (overran r t false) n event_step old =
    let d = event_step.event_facts in
    record {
      rings = old.rings;
      reached =
          λ q u first below low is.
          elim (updated_or m.cells.head r (t + 1) q) [
            | inl b ↦
                let at = d.proper.at_head in
                let past = d.proper.past in
                let below_next : u < t + 1 = rw (d.head, b.1) at below in
                let under : u < m.cells.head q = rw b.0 (omega arith) in
                old.reached q u first under low is
            | inr b ↦
                let under : u < m.cells.head q = rw (d.head, b.1) at below in old.reached q u first under low is
          ];
      absent = absent_stay c m g k (overran r t false) n event_step.low d old.absent;
    }
reached_step c time g m k (overran r t true) n event_step old =
    let d = event_step.event_facts in
    record {
      rings = old.rings;
      reached = rw d.head old.reached;
      absent = absent_stay c m g k (overran r t true) n event_step.low d old.absent;
    }
reached_step c time g m k e n event_step old =
    let d = event_step.event_facts in
    record { rings = old.rings; reached = rw d.head old.reached; absent = absent_stay c m g k e n event_step.low d old.absent }
