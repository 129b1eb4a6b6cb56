-- Who ended for want of a ticket drew one at or past the limit, so its ring's counter is past the limit. Where the ticket
-- bound of a ring is within the limit, nobody did there.
use Rattle.std.proofs.Common.{◌≡◌, ℕ, ◌+◌, ◌<◌, ◌≤◌, ◌⊎◌, Bool, true, false, List, [], ◌∷◌, ◌++◌, refl, inl, inr, arith}
use Rattle.std.specs.List.{Contains}
use Rattle.std.proofs.lemmas.Bool.{cases_eq}
use Rattle.std.proofs.lemmas.List.Elements.{Contains-append_cases}
use Rattle.scq_word.specs.declared.setup.Setup.{Setup}
use Rattle.scq_core.specs.declared.ended.Ended.{Ended}
use Rattle.scq_core.specs.declared.ended.Ended.TheVariants.{Done, Got, Nothing, Spent}
use Rattle.scq_core.specs.Machine.{Machine}
use Rattle.scq_core.specs.Exports.{start_of, IsReachable, seeking}
use Rattle.scq_core.proofs.UpdatedLemmas.{updated_here}
use Rattle.scq_law.specs.Exports.{enqueues, TicketsBounded, NoneSpentWithinLimit}
use Rattle.scq_law.proofs.Base.Ghosts.{Ghost, start_ghost}
use Rattle.scq_law.proofs.Base.TicketEvents.{TicketEvent, finished, refused, taken, emptied, overran, ended_by}
use Rattle.scq_law.proofs.Base.EventFacts.{EventFacts}
use Rattle.scq_law.proofs.Base.Traces.{Trace, has_trace}
use Rattle.scq_law.proofs.Base.EventSteps.{EventStep, ghost_next, along}
use Rattle.scq_law.proofs.Base.SeatStances.{stance_has}
use Rattle.scq_law.proofs.Window.TicketFlows.{advances}
use Rattle.scq_law.proofs.Base.SeatSums.{contains_none, contains_one}
use Rattle.scq_law.proofs.Tickets.TicketLaws.{tickets_bounded}
use Rattle.scq_word.specs.Exports.{ticket_bound}

-- a ticket at or past the limit that was drawn from this counter of a ring
pub record Overran (c : Setup) (counter r t : ℕ) : Type 0 where
  pub ring : r < c.rings
  pub past : c.limit ≤ t
  pub below : t < counter

pub record IsOverrun (c : Setup) (time : ℕ) (g : Ghost) (m : Machine) : Type 0 where
  pub puts : (k r t : ℕ) → Contains (m.part k).calls (Spent r t true) → Overran c (m.cells.tail r) r t
  pub gets : (k r t : ℕ) → Contains (m.part k).calls (Spent r t false) → Overran c (m.cells.head r) r t

-- a counter that rose
rose : (c : Setup) (x y r t : ℕ) → x ≤ y → Overran c x r t → Overran c y r t
rose c x y r t le o = let low = o.below in record { ring = o.ring; past = o.past; below = omega arith }

-- a call that ended before, or by the event
pub spent_back : (c : Setup) (g : Ghost) (m : Machine) (k : ℕ) (e : TicketEvent) (n : Machine) → EventFacts c m g k e n → (j : ℕ) (x : Ended)
    → Contains (n.part j).calls x → Contains (m.part j).calls x ⊎ Contains (ended_by e) x
spent_back c g m k e n event_facts j x has =
    elim (cases_eq j k) [
      | inl same ↦
          let mine : Contains (n.part k).calls x = rw same at has in
          let both : Contains ((m.part k).calls ++ ended_by e) x = rw event_facts.calls at mine in
          elim (Contains-append_cases (m.part k).calls (ended_by e) x both) [
            | inl old ↦ inl (rw same old)
            | inr new ↦ inr new
          ]
      | inr other ↦ inl (rw (event_facts.others j other) at has)
    ]

abbrev is_overrun : TicketEvent → Bool
is_overrun (overran r t b) = true
is_overrun e = false

-- no other event ends a call so
pub ends_otherwise : (e : TicketEvent) (r t : ℕ) (b : Bool) → is_overrun e ≡ false → Contains (ended_by e) (Spent r t b) → ⊥
ends_otherwise (overran q u v) r t b not has = absurd (cc)
ends_otherwise (finished q i v u) r t b not has = let same : Done q u v ≡ Spent r t b = contains_one (Done q u v) (Spent r t b) has in absurd (cc)
ends_otherwise (refused q) r t b not has = let same : Nothing q ≡ Spent r t b = contains_one (Nothing q) (Spent r t b) has in absurd (cc)
ends_otherwise (taken q h i v) r t b not has = let same : Got q h v ≡ Spent r t b = contains_one (Got q h v) (Spent r t b) has in absurd (cc)
ends_otherwise (emptied q h) r t b not has = let same : Nothing q ≡ Spent r t b = contains_one (Nothing q) (Spent r t b) has in absurd (cc)
ends_otherwise e r t b not has = contains_none (Spent r t b) has

overrun_start : (c : Setup) (opening : List (List ℕ)) → IsOverrun c 0 (start_ghost c opening) (start_of c opening)
overrun_start c opening =
    record {
      puts = λ k r t has. absurd (contains_none (Spent r t true) has);
      gets = λ k r t has. absurd (contains_none (Spent r t false) has);
    }

-- by what of it the event is
overrun_by : (c : Setup) (time : ℕ) (g : Ghost) (m : Machine) (k : ℕ) (e : TicketEvent) (n : Machine) → EventStep c time g m k e n
    → ((r t : ℕ) → Contains (ended_by e) (Spent r t true) → Overran c (n.cells.tail r) r t)
    → ((r t : ℕ) → Contains (ended_by e) (Spent r t false) → Overran c (n.cells.head r) r t) → IsOverrun c time g m
    → IsOverrun c (time + 1) (ghost_next time g m k e) n
overrun_by c time g m k e n event_step puts gets was =
    let d = event_step.event_facts in
    let up = advances c time g m k e n event_step in
    record {
      puts =
          λ j r t has.
          elim (spent_back c g m k e n d j (Spent r t true) has) [
            | inl old ↦ rose c (m.cells.tail r) (n.cells.tail r) r t (up.tails r) (was.puts j r t old)
            | inr new ↦ puts r t new
          ];
      gets =
          λ j r t has.
          elim (spent_back c g m k e n d j (Spent r t false) has) [
            | inl old ↦ rose c (m.cells.head r) (n.cells.head r) r t (up.heads r) (was.gets j r t old)
            | inr new ↦ gets r t new
          ];
    }

other_kind : (q u r t : ℕ) (a b : Bool) → Contains (Spent q u a ∷ []) (Spent r t b) → a ≡ b
other_kind q u r t a b has = let same : Spent q u a ≡ Spent r t b = contains_one (Spent q u a) (Spent r t b) has in cc

same_ticket : (q u r t : ℕ) (a b : Bool) (P : ℕ → ℕ → Type 0) → Contains (Spent q u a ∷ []) (Spent r t b) → P q u → P r t
same_ticket q u r t a b P has holds =
    let same : Spent q u a ≡ Spent r t b = contains_one (Spent q u a) (Spent r t b) has in
    let ring : q ≡ r = cc in
    let ticket : u ≡ t = cc in
    rw (← ring, ← ticket) holds

overrun_step : (c : Setup) (time : ℕ) (g : Ghost) (m : Machine) (k : ℕ) (e : TicketEvent) (n : Machine) → EventStep c time g m k e n → IsOverrun c time g m
    → IsOverrun c (time + 1) (ghost_next time g m k e) n
overrun_step c time g m k (overran q u true) n event_step =
    let d = event_step.event_facts in
    overrun_by c time g m k (overran q u true) n event_step
    (λ r t has.
    same_ticket q u r t true true (λ r t. Overran c (n.cells.tail r) r t) has
    (record { ring = d.proper.ring; past = d.proper.past; below = rw (d.tail, updated_here m.cells.tail q (u + 1)) (omega arith) }))
    (λ r t has. let not = other_kind q u r t true false has in absurd (cc))
overrun_step c time g m k (overran q u false) n event_step =
    let d = event_step.event_facts in
    overrun_by c time g m k (overran q u false) n event_step
    (λ r t has. let not = other_kind q u r t false true has in absurd (cc))
    (λ r t has.
    same_ticket q u r t false false (λ r t. Overran c (n.cells.head r) r t) has
    (record {
      ring = stance_has c g m k (seeking q) event_step.base d.proper.was;
      past = d.proper.past;
      below = rw (d.head, updated_here m.cells.head q (u + 1)) (omega arith);
    }))
overrun_step c time g m k e n event_step =
    overrun_by c time g m k e n event_step (λ r t new. absurd (ends_otherwise e r t true refl new))
    (λ r t new. absurd (ends_otherwise e r t false refl new))

pub overrun : (c : Setup) (time : ℕ) (g : Ghost) (m : Machine) → Trace c time g m → IsOverrun c time g m
overrun c = along c (IsOverrun c) (λ opening full. overrun_start c opening) (overrun_step c)

pub none_spent : (c : Setup) (m : Machine) → IsReachable c m → NoneSpentWithinLimit c m
none_spent c m reach =
    let past = has_trace c m reach in
    let over = overrun c past.time past.ghost m past.trace in
    let bounded = tickets_bounded c m reach in
    record { none = λ r within k t is_put has. go over bounded r within k t is_put has }
  where
    go : {time : ℕ} {g : Ghost} → IsOverrun c time g m → TicketsBounded c m → (r : ℕ) → ticket_bound c.order c.seats (enqueues c m r) ≤ c.limit
        → (k t : ℕ) (is_put : Bool)
        → Contains (m.part k).calls (Spent r t is_put) → ⊥
    go over bounded r fits k t true has =
        let o = over.puts k r t has in
        let past = o.past in let below = o.below in
        let tail = bounded.tail r in
        omega arith
    go over bounded r fits k t false has =
        let o = over.gets k r t has in
        let past = o.past in let below = o.below in
        let head = bounded.head r in
        omega arith
