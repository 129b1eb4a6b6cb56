-- Cover and book in each state of a run, and with them the window. Plan: one induction for cover and book; the window of
-- the state before an event, which follows from both, is what its step needs.
use Rattle.std.proofs.Common.{◌≡◌, ℕ, ◌+◌, ◌<◌, List, inl, inr, ap, sym, ◌∙◌, arith, eq-eqb, ne_eqb}
use Rattle.std.proofs.lemmas.Bool.{cases_eq}
use Rattle.scq_word.specs.declared.setup.Setup.{Setup}
use Rattle.scq_word.specs.Exports.{n_of}
use Rattle.scq_core.specs.Machine.{Machine}
use Rattle.scq_core.specs.Exports.{ring_slots, start_of, Offers, putting}
use Rattle.scq_law.proofs.Base.Ghosts.{Ghost, pending, failed, start_ghost}
use Rattle.scq_law.proofs.Base.TicketEvents.{TicketEvent}
use Rattle.scq_law.proofs.Base.EventFacts.{stance}
use Rattle.scq_law.proofs.Base.Traces.{Trace}
use Rattle.scq_law.proofs.Base.Based.{IsBased, based}
use Rattle.scq_law.proofs.Base.StartTickets.{stands_at}
use Rattle.scq_law.proofs.Base.EventSteps.{EventStep, ghost_next}
use Rattle.scq_law.proofs.Base.RunInduction.{follow}
use Rattle.scq_law.proofs.Places.Throughout.{rooted, once}
use Rattle.scq_law.proofs.Base.SeatStances.{stance_has}
use Rattle.scq_law.proofs.Places.SeatTickets.{IsRooted}
use Rattle.scq_law.proofs.Places.OneSpot.{in_hand, at_place, IsAtOneSpot}
use Rattle.scq_law.proofs.Window.FailedTickets.{StandsAtMostOnce, TicketsAreDrawn, FailedTickets, IsWindow}
use Rattle.scq_law.proofs.Window.WindowOfCover.{window}
use Rattle.scq_law.proofs.Window.TicketFlows.{flows, advances}
use Rattle.scq_law.proofs.Window.CoverKept.{covered_step, book_step}

-- what a pending ticket's seat has
record Holder (c : Setup) (m : Machine) (j r t i : ℕ) : Type 0 where
  content : List ℕ
  is : stance m j ≡ putting r i content t
  offers : Offers c (m.part j).hand r i

holder : (c : Setup) (g : Ghost) (m : Machine) → IsBased c g m → IsRooted g m → (j r t i : ℕ) → g.puts r t ≡ pending j i → Holder c m j r t i
holder c g m base rooted j r t i is =
    let root = rooted.pends j r t i is in
    let has = stance_has c g m j (putting r i root.content t) base root.is in
    record { content = root.content; is = root.is; offers = has.0 }

one_ticket : (m : Machine) (j k r i t u : ℕ) (w v : List ℕ) → j ≡ k → stance m j ≡ putting r i w t → stance m k ≡ putting r i v u → t ≡ u
one_ticket m j k r i t u w v same one two =
    let e : stance m j ≡ stance m k = ap (stance m) same in
    let f : putting r i w t ≡ putting r i v u = sym one ∙ e ∙ two in
    cc

pub alone_of : (c : Setup) (g : Ghost) (m : Machine) → IsBased c g m → IsRooted g m → IsAtOneSpot c g m → StandsAtMostOnce c g
alone_of c g m base rooted once =
    record {
      pends =
          λ r t u j k i one two.
          let a = holder c g m base rooted j r t i one in
          let b = holder c g m base rooted k r u i two in
          let same : in_hand j ≡ in_hand k = once.alone i (in_hand j) (in_hand k) a.offers.held b.offers.held in
          let seat : j ≡ k = cc in
          one_ticket m j k r i t u a.content b.content seat a.is b.is;
      apart =
          λ r t p j i one live.
          let a = holder c g m base rooted j r t i one in
          let same : in_hand j ≡ at_place r p = once.alone i (in_hand j) (at_place r p) a.offers.held live in
          absurd (cc);
      lives =
          λ r p q i one two.
          let same : at_place r p ≡ at_place r q = once.alone i (at_place r p) (at_place r q) one two in
          cc;
      low = λ r t k i is. let a = holder c g m base rooted k r t i is in a.offers.index;
    }

pub record IsNoted (c : Setup) (time : ℕ) (g : Ghost) (m : Machine) : Type 0 where
  pub covered : TicketsAreDrawn c g m.cells.tail m.cells.head
  pub book : FailedTickets c g m.cells.head time

alone : (c : Setup) (time : ℕ) (g : Ghost) (m : Machine) → Trace c time g m → IsBased c g m → StandsAtMostOnce c g
alone c time g m trace base = alone_of c g m base (rooted c time g m trace) (once c time g m trace)

-- the window in a state with both
from_notes : (c : Setup) (time : ℕ) (g : Ghost) (m : Machine) → Trace c time g m → IsBased c g m → IsNoted c time g m → IsWindow c m.cells.tail m.cells.head
from_notes c time g m trace base noted =
    window c m.cells.entries g m.cells.tail m.cells.head time base.booked base.drawn (alone c time g m trace base) noted.covered noted.book

noted_start : (c : Setup) (opening : List (List ℕ)) → IsNoted c 0 (start_ghost c opening) (start_of c opening)
noted_start c opening =
    record {
      covered =
          record {
            covered =
                λ r t high below below_limit is.
                elim (stands_at c opening r t) [
                  | inl s ↦ let at = s.is in absurd (cc)
                  | inr s ↦
                      elim (cases_eq r 0) [
                        | inl first ↦
                            let low : t < ring_slots c + n_of c.order = rw (eq-eqb r 0 first) at below in s.out first high low
                        | inr later ↦ let low : t < ring_slots c = rw (ne_eqb r 0 later) at below in omega arith
                      ]
                ];
          };
      book =
          record {
            made = λ r t y d b is. absurd (none r t y d b is);
            small = λ r t y d b is high. absurd (none r t y d b is);
            blocked = λ r t y d b is high. absurd (none r t y d b is);
            drawer = λ r t y d b is high. absurd (none r t y d b is);
            apart = λ r t y d b s z f i is so high low other. absurd (none r t y d b is);
            other = λ r t y d b s z f i is so high low order. absurd (none r t y d b is);
          };
    }
  where
    none : (r t y d b : ℕ) → (start_ghost c opening).puts r t ≡ failed y d b → ⊥
    none r t y d b is =
        elim (stands_at c opening r t) [
          | inl s ↦ let at = s.is in absurd (cc)
          | inr s ↦ let at = s.is in absurd (cc)
        ]

noted_step : (c : Setup) (time : ℕ) (g : Ghost) (m : Machine) (k : ℕ) (e : TicketEvent) (n : Machine) → Trace c time g m → EventStep c time g m k e n
    → IsNoted c time g m → IsNoted c (time + 1) (ghost_next time g m k e) n
noted_step c time g m k e n trace event_step noted =
    let h = ghost_next time g m k e in
    let base = event_step.base in
    let flow = flows c time g m k e n event_step in
    let up = advances c time g m k e n event_step in
    let near = from_notes c time g m trace base noted in
    record {
      covered = covered_step c g h m.cells.tail m.cells.head n.cells.tail n.cells.head time flow up noted.covered;
      book =
          book_step c m.cells.entries g h m.cells.tail m.cells.head n.cells.head time flow up.heads base.booked base.drawn (alone c time g m trace base) near
          noted.book;
    }

pub noted : (c : Setup) (time : ℕ) (g : Ghost) (m : Machine) → Trace c time g m → IsNoted c time g m
noted c = follow c (IsNoted c) (λ opening full. noted_start c opening) (noted_step c)

-- in each state of a run
pub windowed : (c : Setup) (time : ℕ) (g : Ghost) (m : Machine) → Trace c time g m → IsWindow c m.cells.tail m.cells.head
windowed c time g m trace = from_notes c time g m trace (based c time g m trace) (noted c time g m trace)
