-- Threshold covers what is finished at or past Head. Plan: but for a reset, no event lowers Threshold and Head together
-- by more than its seat's attempt in flight; at a reset a finished place is in the window, and the seat has no attempt in flight.
use Rattle.std.proofs.Common.{◌≡◌, ◌≢◌, ℕ, ◌+◌, ◌-◌, ◌<◌, ◌≤◌, true, false, List, refl, inl, inr, ap, sym, arith, eq-eqb, ne_eqb}
use Rattle.std.specs.Prelude.{◌==◌, if◌then◌else◌}
use Rattle.std.proofs.lemmas.Bool.{cases_eq, cases_lt}
use Rattle.scq_word.specs.declared.setup.Setup.{Setup}
use Rattle.scq_core.specs.declared.ended.Ended.TheVariants.{Done}
use Rattle.scq_core.specs.Exports.{SeatPart, updated, ring_slots, zero_level, reset_level, start_of, Stance, stance_of, attempt_ring, one_on}
use Rattle.scq_core.specs.Machine.{Machine}
use Rattle.scq_core.proofs.UpdatedLemmas.{updated_or, updated_here}
use Rattle.scq_core.proofs.Counts.{total_none, total_less, one_on_bit}
use Rattle.scq_core.proofs.Entries.{reset_covers, reset_reaches}
use Rattle.scq_law.specs.Exports.{in_flight, attempts_in_flight, IsFinished, ThresholdCovers}
use Rattle.scq_law.proofs.Base.Ghosts.{Ghost, is_placed}
use Rattle.scq_law.proofs.Base.TicketEvents.{TicketEvent, finished, began, died, saw_end, lifted, lowered, emptied, overran}
use Rattle.scq_law.proofs.Base.EventFacts.{stance}
use Rattle.scq_law.proofs.Window.FailCauses.{placement}
use Rattle.scq_law.proofs.Base.Traces.{Trace}
use Rattle.scq_law.proofs.Base.BaseGroup.{IsDrawn}
use Rattle.scq_law.proofs.Base.EventSteps.{EventStep}
use Rattle.scq_law.proofs.Base.RunInduction.{follow}
use Rattle.scq_law.proofs.Window.FailedTickets.{IsWindow}
use Rattle.scq_law.proofs.Window.TicketFlows.{advances}
use Rattle.scq_law.proofs.Window.CoverThroughout.{windowed}
use Rattle.scq_law.proofs.Base.SeatSums.{total_change, contains_none}
use Rattle.scq_law.proofs.Threshold.FinishedPlaced.{is_finish, finished_back, finished_or, finished_placed}

-- 1 for a seat of this stance whose attempt is in flight on this ring
abbrev pub flying : ℕ → Stance → ℕ
flying r s = one_on r (attempt_ring s)

-- a seat's own attempt in flight, on its ring and on another
abbrev pub bit : ℕ → ℕ → ℕ
bit q r = if q == r then 1 else 0

pub here_one : (q r : ℕ) → r ≡ q → bit q r ≡ 1
here_one q r same = rw (eq-eqb q r (sym same)) refl

pub there_none : (q r : ℕ) → r ≢ q → bit q r ≡ 0
there_none q r other = rw (ne_eqb q r (λ e. other (sym e))) refl

-- a Threshold that falls by one where its seat had an attempt in flight
falls : (level : ℕ → ℕ) (q r head : ℕ) → level r + head ≤ updated level q (level q - 1) r + head + bit q r
falls level q r head =
    elim (updated_or level q (level q - 1) r) [
      | inl a ↦ let one = here_one q r a.0 in let same : level r ≡ level q = ap level a.0 in let new = a.1 in omega arith
      | inr a ↦ let new = a.1 in omega arith
    ]

-- Threshold and Head, with the seat's attempts in flight before and after
pub record Level (x y u v a b : ℕ) : Type 0 where
  pub level : x + u + b ≤ y + v + a

pub level_event : (c : Setup) (time : ℕ) (g : Ghost) (m : Machine) (k : ℕ) (e : TicketEvent) (n : Machine) → EventStep c time g m k e n → is_finish e ≡ false
    → (r : ℕ) → Level (m.cells.threshold r) (n.cells.threshold r) (m.cells.head r) (n.cells.head r) (flying r (stance m k)) (flying r (stance n k))
level_event c time g m k (finished q i w t) n event_step not r = absurd (cc)
level_event c time g m k (began q h) n event_step not r =
    let d = event_step.event_facts in
    let at = d.proper.at_head in
    rw (d.threshold, d.head, d.stance)
    (elim (updated_or m.cells.head q (h + 1) r) [
      | inl a ↦
          let one = here_one q r a.0 in
          let same : m.cells.head r ≡ m.cells.head q = ap m.cells.head a.0 in
          let new = a.1 in
          record { level = omega arith }
      | inr a ↦ let none = there_none q r a.0 in let new = a.1 in record { level = omega arith }
    ])
level_event c time g m k (died q h) n event_step not r =
    let d = event_step.event_facts in
    rw (d.threshold, d.head, d.stance, d.proper.was) (record { level = omega arith })
level_event c time g m k (saw_end q h) n event_step not r =
    let d = event_step.event_facts in
    rw (d.threshold, d.head, d.stance, d.proper.was) (record { level = omega arith })
level_event c time g m k (lifted q h to) n event_step not r =
    let d = event_step.event_facts in
    rw (d.threshold, d.head, d.stance, d.proper.was) (record { level = omega arith })
level_event c time g m k (lowered q h) n event_step not r =
    let d = event_step.event_facts in
    let le = falls m.cells.threshold q r (m.cells.head r) in
    rw (d.threshold, d.head, d.stance, d.proper.was) (record { level = omega arith })
level_event c time g m k (emptied q h) n event_step not r =
    let d = event_step.event_facts in
    let le = falls m.cells.threshold q r (m.cells.head r) in
    elim d.proper.was [
      | inl was ↦ rw (d.threshold, d.head, d.stance, was) (record { level = omega arith })
      | inr was ↦ rw (d.threshold, d.head, d.stance, was.0) (record { level = omega arith })
    ]
level_event c time g m k (overran q t false) n event_step not r =
    let d = event_step.event_facts in
    let at = d.proper.at_head in
    rw (d.threshold, d.head, d.stance)
    (elim (updated_or m.cells.head q (t + 1) r) [
      | inl a ↦
          let same : m.cells.head r ≡ m.cells.head q = ap m.cells.head a.0 in
          let new = a.1 in
          record { level = omega arith }
      | inr a ↦ let new = a.1 in record { level = omega arith }
    ])
level_event c time g m k (overran q t true) n event_step not r =
    let d = event_step.event_facts in
    rw (d.threshold, d.head, d.stance) (record { level = omega arith })
level_event c time g m k e n event_step not r =
    let d = event_step.event_facts in
    rw (d.threshold, d.head, d.stance) (record { level = omega arith })

-- the attempts in flight move as the seat's own do
pub flights_move : (c : Setup) (time : ℕ) (g : Ghost) (m : Machine) (k : ℕ) (e : TicketEvent) (n : Machine) → EventStep c time g m k e n → (r : ℕ)
    → attempts_in_flight c n r + flying r (stance m k) ≡ attempts_in_flight c m r + flying r (stance n k)
flights_move c time g m k e n event_step r =
    let sum = total_change (λ (p : SeatPart). in_flight r p.phase) m.part n.part k c.seats event_step.low event_step.event_facts.others in
    omega arith

covers_start : (c : Setup) (opening : List (List ℕ)) → ThresholdCovers c (start_of c opening)
covers_start c opening =
    record {
      covers =
          λ r p fin high.
          let none : attempts_in_flight c (start_of c opening) r ≡ 0 =
          total_none (λ (p : SeatPart). in_flight r p.phase) (start_of c opening).part c.seats (λ k low. refl) in
          elim fin [
            | inl done ↦ absurd (contains_none (Done r p done.content) done.ended)
            | inr opens ↦
                let ring = opens.ring in
                let last = opens.last in
                let reaches = reset_covers c in
                rw (eq-eqb r 0 ring) (omega arith)
          ];
    }

-- a finished place is in the window
pub finished_near : (c : Setup) (g : Ghost) (m : Machine) → IsDrawn c m.cells.tail m.cells.head g → IsWindow c m.cells.tail m.cells.head → (r p : ℕ)
    → is_placed (g.puts r p) ≡ true → p + 2 ≤ m.cells.head r + ring_slots c
finished_near c g m drawn window r p is =
    let at = placement g r p is in
    let low : p < m.cells.tail r =
    elim (cases_lt p (m.cells.tail r)) [
      | inl less ↦ less
      | inr high ↦ let there = at.is in let not = drawn.tails r p high in absurd (cc)
    ] in
    let below_limit : p < c.limit =
    elim (cases_lt p c.limit) [
      | inl less ↦ less
      | inr high ↦ let there = at.is in let not = drawn.put_limit r p high in absurd (cc)
    ] in
    window.within r p low below_limit

-- an event that ends no put
covers_on : (c : Setup) (time : ℕ) (g : Ghost) (m : Machine) (k : ℕ) (e : TicketEvent) (n : Machine) → EventStep c time g m k e n → (r : ℕ)
    → Level (m.cells.threshold r) (n.cells.threshold r) (m.cells.head r) (n.cells.head r) (flying r (stance m k)) (flying r (stance n k))
    → ((p : ℕ) → IsFinished c n r p → IsFinished c m r p) → ThresholdCovers c m → (p : ℕ) → IsFinished c n r p → n.cells.head r ≤ p
    → zero_level + p + attempts_in_flight c n r + 2 ≤ n.cells.threshold r + n.cells.head r
covers_on c time g m k e n event_step r own back was p fin high =
    let up = advances c time g m k e n event_step in
    let rises = up.heads r in
    let moves = flights_move c time g m k e n event_step r in
    let before = was.covers r p (back p fin) (omega arith) in
    let level = own.level in
    omega arith

-- the event that ends a put, on another ring
other_level : (c : Setup) (time : ℕ) (g : Ghost) (m : Machine) (k q i : ℕ) (w : List ℕ) (t : ℕ) (n : Machine) → EventStep c time g m k (finished q i w t) n
    → (r : ℕ) → r ≢ q → Level (m.cells.threshold r) (n.cells.threshold r) (m.cells.head r) (n.cells.head r) (flying r (stance m k)) (flying r (stance n k))
other_level c time g m k q i w t n event_step r other =
    let d = event_step.event_facts in
    rw (d.threshold, d.head, d.stance)
    (elim (updated_or m.cells.threshold q (reset_level c) r) [
      | inl a ↦ absurd (other a.0)
      | inr a ↦ let new = a.1 in record { level = omega arith }
    ])

covers_step : (c : Setup) (time : ℕ) (g : Ghost) (m : Machine) (k : ℕ) (e : TicketEvent) (n : Machine) → Trace c time g m → EventStep c time g m k e n
    → ThresholdCovers c m → ThresholdCovers c n
covers_step c time g m k (finished q i w t) n trace event_step was =
    let d = event_step.event_facts in
    record {
      covers =
          λ r p fin high.
          elim (cases_eq r q) [
            | inr other ↦
                covers_on c time g m k (finished q i w t) n event_step r (other_level c time g m k q i w t n event_step r other)
                (λ z f. elim (finished_or c g m k q i w t n d r z f) [ inl old ↦ old | inr new ↦ absurd (other new.0) ])
                was
                p
                fin
                high
            | inl same ↦
                let there : is_placed (g.puts r p) ≡ true =
                elim (finished_or c g m k q i w t n d r p fin) [
                  | inl old ↦ (finished_placed c time g m trace).placed r p old
                  | inr new ↦ rw (new.0, new.1) (ap is_placed d.proper.placed)
                ] in
                let near = finished_near c g m event_step.base.drawn (windowed c time g m trace) r p there in
                let idle : in_flight r (n.part k).phase ≡ 0 = ap (flying r) d.stance in
                let few =
                total_less (λ (a : SeatPart). in_flight r a.phase) n.part (λ a. one_on_bit r (attempt_ring (stance_of a.phase))) c.seats k event_step.low idle in
                let reaches = reset_reaches c in
                let reset : n.cells.threshold r ≡ reset_level c = rw (d.threshold, same) (updated_here m.cells.threshold q (reset_level c)) in
                let head : n.cells.head r ≡ m.cells.head r = rw d.head refl in
                omega arith
          ];
    }
covers_step c time g m k e n trace event_step was =
    record {
      covers =
          λ r p fin high.
          covers_on c time g m k e n event_step r (level_event c time g m k e n event_step refl r)
          (λ z f. finished_back c g m k e n event_step.event_facts refl r z f)
          was
          p
          fin
          high;
    }

pub covers : (c : Setup) (time : ℕ) (g : Ghost) (m : Machine) → Trace c time g m → ThresholdCovers c m
covers c =
    follow c (λ time g m. ThresholdCovers c m) (λ opening full. covers_start c opening) (covers_step c)
