-- Head is no further past Tail than seats have tickets of it. Plan: each ticket from Tail on below
-- Head is that of a dequeue which hasn't seen Tail past it, or one that a seat keeps, since a
-- dequeue takes or gives up only once Tail is past its ticket; and a seat has one ticket.
use Rattle.std.proofs.Common.{◌≡◌, ℕ, zero, suc, ◌+◌, ◌-◌, ◌<◌, ◌≤◌, ◌⊎◌, true, false, refl, sym, ap, ◌∙◌, inl, inr, arith, eq-eqb, ne_eqb}
use Rattle.std.specs.Prelude.{◌==◌, nat_lt, nat_le, if◌then◌else◌, Option, Some, None}
use Rattle.std.proofs.lemmas.Bool.{cases_Bool, cases_eq, cases_lt}
use Rattle.scq_word.specs.declared.setup.Setup.{Setup}
use Rattle.scq_word.specs.Exports.{n_of, cycle_in}
use Rattle.scq_core.specs.declared.phase.Phase.{Phase}
use Rattle.scq_core.specs.declared.phase.Phase.TheVariants.{AtE3, AtD2, AtD3, AtD4, AtD5, AtD6, AtD7, AtD8, AtD9, AtD10}
use Rattle.scq_core.specs.declared.step.Step.{Step}
use Rattle.scq_core.specs.Exports.{updated, Cells, SeatPart, read, beside, ring_slots, cycle, turn_of, location_of, after, cells_after, moved, Stance}
use Rattle.scq_core.specs.Exports.{trying, gave_up, stance_of, IsReachable, at_start, by_step, word_at, total}
use Rattle.scq_core.specs.Machine.{Machine}
use Rattle.scq_core.proofs.UpdatedLemmas.{updated_here, updated_else, updated_or}
use Rattle.scq_core.proofs.Turns.{turned, begins}
use Rattle.scq_core.proofs.Steady.{has, steady, keeps_none, either_way}
use Rattle.scq_core.proofs.Ranks.{counters_rise}
use Rattle.scq_core.proofs.Counts.{total_one}
use Rattle.scq_law.proofs.Base.SeatSums.{total_le, total_plus}
use Rattle.scq_law.proofs.Progress.CaughtUp.{Caught, TakesBelowTail, caught_at, caught, takes_at}

-- the ticket of Head that a seat has on a ring: the one that it keeps, or the one that its dequeue
-- looks at or gave up
abbrev pub ticket_held : ℕ → Option ℕ → Stance → Option ℕ
ticket_held r (Some t) s = Some t
ticket_held r None (trying q h) = if q == r then Some h else None
ticket_held r None (gave_up q h leaves) = if q == r then Some h else None
ticket_held r None s = None

abbrev pub ticket_on : ℕ → SeatPart → Option ℕ
ticket_on r p = ticket_held r p.spent (stance_of p.phase)

with_none : (r : ℕ) (o : Option ℕ) (s : Stance) (t : ℕ) → o ≡ None → ticket_held r None s ≡ Some t
    → ticket_held r o s ≡ Some t
with_none r o s t none is = rw none is

held_is : (q r h t : ℕ) → (if q == r then Some h else None) ≡ Some t → (q ≡ r) × (h ≡ t)
held_is q r h t e =
    elim (cases_eq q r) [
      | inl same ↦ let is : Some h ≡ Some t = rw (eq-eqb q r same) at e in (same, cc)
      | inr other ↦
          let is : ◌≡◌ {A = Option ℕ} None (Some t) = rw (ne_eqb q r other) at e in
          absurd (cc)
    ]

-- a ticket that Tail is past
past_tail : (m : Cells) (q r h t : ℕ) → (if q == r then Some h else None) ≡ Some t → h < m.tail q
    → t < m.tail r
past_tail m q r h t e low =
    let is = held_is q r h t e in
    let ticket = is.1 in
    let same : m.tail q ≡ m.tail r = ap m.tail is.0 in
    omega arith

-- the seat of a turn keeps its ticket, or Tail is past that
module _ (c : Setup) (m : Cells) (p : SeatPart) (none : p.spent ≡ None) (r t : ℕ) where
  abbrev StaysFor : Phase → Type 0
  StaysFor turn = (ticket_on r
      (after c turn (read m (location_of c turn)) (beside m (location_of c turn)) p) ≡ Some t)
      ⊎ (t < m.tail r)

  abbrev HasIt : SeatPart → Type 0
  HasIt v = ticket_on r v ≡ Some t

  stays_for : (turn : Phase) → Caught m turn → TakesBelowTail m turn
      → ticket_held r None (stance_of turn) ≡ Some t → StaysFor turn
  stays_for (AtD3 q h l) low takes e =
      let x = word_at c m q h in
      inl
      (either_way HasIt (cycle_in (ring_slots c) x == cycle c h) _ _
      (with_none r p.spent (trying q h) t none e)
      (either_way HasIt (nat_lt (cycle_in (ring_slots c) x) (cycle c h)) _ _
      (with_none r p.spent (trying q h) t none e)
      (with_none r p.spent (gave_up q h false) t none e)))
  stays_for (AtD4 q h) low takes e = inr (past_tail m q r h t e takes)
  stays_for (AtD5 q h x) low takes e =
      inl
      (either_way HasIt (word_at c m q h == x) _ _
      (with_none r p.spent (gave_up q h false) t none e)
      (with_none r p.spent (trying q h) t none e))
  stays_for (AtD6 q h) low takes e =
      inl
      (either_way HasIt (nat_le (m.tail q) (h + 1)) _ _
      (with_none r p.spent (gave_up q h true) t none e)
      (with_none r p.spent (gave_up q h false) t none e))
  stays_for (AtD7 q h from to) low takes e =
      inl
      (either_way HasIt (m.tail q == from) _ _ (with_none r p.spent (gave_up q h true) t none e)
      (with_none r p.spent (gave_up q h true) t none e))
  stays_for (AtD8 q h from) low takes e = inl (with_none r p.spent (gave_up q h true) t none e)
  stays_for (AtD9 q h from to) low takes e =
      inl
      (either_way HasIt (nat_le to (m.tail q)) _ _ (with_none r p.spent (gave_up q h true) t none e)
      (with_none r p.spent (gave_up q h true) t none e))
  stays_for (AtD10 q h leaving) low takes e = inr (past_tail m q r h t e low)
  stays_for turn low takes e = let clash : ◌≡◌ {A = Option ℕ} None (Some t) = e in absurd (cc)

-- a turn's seat has the ticket that its part has
turn_ticket : (c : Setup) (p : SeatPart) (s : Step) (turn : Phase) (r t : ℕ) → turn_of c p s ≡ Some turn
    → p.spent ≡ None → ticket_on r p ≡ Some t
    → ticket_held r None (stance_of turn) ≡ Some t
turn_ticket c p s turn r t enabled none is =
    let plain : ticket_held r None (stance_of p.phase) ≡ Some t = rw none at is in
    elim (begins c p.hand p.spent p.phase s turn enabled) [
      | inl same ↦ rw same plain
      | inr new ↦ let clash : ◌≡◌ {A = Option ℕ} None (Some t) = rw new.0 at plain in absurd (cc)
    ]

-- a counter that is only read
pub same_value : (f : ℕ → ℕ) (q r : ℕ) → updated f q (f q) r ≡ f r
same_value f q r = elim (updated_or f q (f q) r) [ inl a ↦ a.1 ∙ ap f (sym a.0) | inr a ↦ a.1 ]

-- a ticket that Head passes in a turn is the turn's seat's
module _ (c : Setup) (m : Cells) (p : SeatPart) (none : p.spent ≡ None) (r t : ℕ) (high : m.head r ≤ t)
  where
    new_ticket : (turn : Phase) → t < (cells_after c turn m).head r
        → ticket_on r (after c turn (read m (location_of c turn)) (beside m (location_of c turn)) p)
        ≡ Some t
    new_ticket (AtE3 q i w u e) under = let same = same_value m.head q r in absurd (omega arith)
    new_ticket (AtD8 q h from) under = let same = same_value m.head q r in absurd (omega arith)
    new_ticket (AtD2 q l) under =
        elim (updated_or m.head q (m.head q + 1) r) [
          | inl a ↦
              let new = a.1 in
              let ring : m.head r ≡ m.head q = ap m.head a.0 in
              let same : m.head q ≡ t = omega arith in
              elim (cases_Bool (nat_le c.limit (m.head q))) [
                | inl past ↦ rw past (ap (λ (x : ℕ). Some x) same)
                | inr low ↦ rw (low, none, eq-eqb q r (sym a.0)) (ap (λ (x : ℕ). Some x) same)
              ]
          | inr a ↦ let old = a.1 in absurd (omega arith)
        ]
    new_ticket turn under = absurd (omega arith)

-- a seat has the ticket
pub record HasTicket (c : Setup) (m : Machine) (r t : ℕ) : Type 0 where
  pub seat : ℕ
  pub low : seat < c.seats
  pub is : ticket_on r (m.part seat) ≡ Some t

abbrev pub TicketsHeld : Setup → Machine → Type 0
TicketsHeld c m = (r t : ℕ) → m.cells.tail r ≤ t → t < m.cells.head r → HasTicket c m r t

held_step : (c : Setup) (m : Machine) (j : ℕ) (s : Step) (turn : Phase) → j < c.seats
    → IsReachable c m → turn_of c (m.part j) s ≡ Some turn
    → TicketsHeld c m → TicketsHeld c (moved c m j turn)
held_step c m j s turn low reach enabled was r t high under =
    let all = steady c m reach in
    let p = m.part j in
    let busy = has c m.cells p s turn (all.busy j) enabled in
    let tail = (counters_rise c m.cells p.hand turn busy).tail r in
    let none = keeps_none c m j s turn all enabled in
    let q = after c turn (read m.cells (location_of c turn)) (beside m.cells (location_of c turn))
    p in
    elim (cases_lt t (m.cells.head r)) [
      | inl old ↦
          let one = was r t (omega arith) old in
          elim (cases_eq one.seat j) [
            | inl own ↦
                let mine : ticket_on r p ≡ Some t =
                sym (ap (λ (k : ℕ). ticket_on r (m.part k)) own) ∙ one.is in
                elim
                (stays_for c m.cells p none r t turn
                (caught_at c m.cells p s turn enabled (caught c m reach j))
                (takes_at c m j s turn reach enabled)
                (turn_ticket c p s turn r t enabled none mine)) [
                  | inl still ↦
                      record {
                        seat = j;
                        low = low;
                        is = ap (λ (v : SeatPart). ticket_on r v) (updated_here m.part j q) ∙ still;
                      }
                  | inr past ↦ absurd (omega arith)
                ]
            | inr other ↦
                record {
                  seat = one.seat;
                  low = one.low;
                  is = ap (λ (v : SeatPart). ticket_on r v) (updated_else m.part j q one.seat other)
                      ∙ one.is;
                }
          ]
      | inr new ↦
          record {
            seat = j;
            low = low;
            is = ap (λ (v : SeatPart). ticket_on r v) (updated_here m.part j q)
                ∙ new_ticket c m.cells p none r t new turn under;
          }
    ]

pub tickets_held : (c : Setup) (m : Machine) → IsReachable c m → TicketsHeld c m
tickets_held c m (at_start opening full) =
    λ r t high under.
    elim (cases_eq r 0) [
      | inl first ↦
          let low : ring_slots c + n_of c.order ≤ t = rw (eq-eqb r 0 first) at high in
          absurd (omega arith)
      | inr later ↦
          let low : ring_slots c ≤ t = rw (ne_eqb r 0 later) at high in
          absurd (omega arith)
    ]
tickets_held c m (by_step {m = b} seat step reach low e) =
    let t = turned c b seat step m e in
    rw t.next (held_step c b seat step t.turn low reach t.enabled (tickets_held c b reach))

-- 1 for this ticket; 1 for one of so many from a ticket on; 1 for any
abbrev is_at : ℕ → Option ℕ → ℕ
is_at t None = 0
is_at t (Some u) = if u == t then 1 else 0

abbrev is_in : ℕ → ℕ → Option ℕ → ℕ
is_in a zero o = 0
is_in a (suc d) o = is_in a d o + is_at (a + d) o

abbrev pub is_any : Option ℕ → ℕ
is_any None = 0
is_any (Some u) = 1

in_none : (a d : ℕ) → is_in a d None ≡ 0
in_none a zero = refl
in_none a (suc d) = let rest = in_none a d in omega arith

in_lower : (a d u : ℕ) → a + d ≤ u → is_in a d (Some u) ≡ 0
in_lower a zero u high = refl
in_lower a (suc d) u high =
    let rest = in_lower a d u (omega arith) in
    let not : is_at (a + d) (Some u) ≡ 0 = rw (ne_eqb u (a + d) (λ e. omega arith)) refl in
    omega arith

in_one : (a d u : ℕ) → is_in a d (Some u) ≤ 1
in_one a zero u = omega arith
in_one a (suc d) u =
    elim (cases_eq u (a + d)) [
      | inl same ↦
          let none = in_lower a d u (omega arith) in
          let is : is_at (a + d) (Some u) ≡ 1 = rw (eq-eqb u (a + d) same) refl in
          omega arith
      | inr other ↦
          let rest = in_one a d u in
          let not : is_at (a + d) (Some u) ≡ 0 = rw (ne_eqb u (a + d) other) refl in
          omega arith
    ]

in_any : (a d : ℕ) (o : Option ℕ) → is_in a d o ≤ is_any o
in_any a d None = let none = in_none a d in omega arith
in_any a d (Some u) = in_one a d u

-- so many tickets in a row, each of a seat, are of as many seats
many_held : (f : SeatPart → Option ℕ) (part : ℕ → SeatPart) (n a d : ℕ)
    → ((t : ℕ) → a ≤ t → t < a + d → (k : ℕ) × (k < n) × (f (part k) ≡ Some t))
    → d ≤ total (λ p. is_in a d (f p)) part n
many_held f part n a zero each = omega arith
many_held f part n a (suc d) each =
    let rest = many_held f part n a d (λ t low under. each t low (omega arith)) in
    let last = each (a + d) (omega arith) (omega arith) in
    let here : is_at (a + d) (f (part last.0)) ≡ 1 =
    ap (is_at (a + d)) last.2 ∙ rw (eq-eqb (a + d) (a + d) refl) refl in
    let one = total_one (λ p. is_at (a + d) (f p)) part n last.0 last.1 in
    let sum = total_plus (λ p. is_in a d (f p)) (λ p. is_at (a + d) (f p)) part n in
    omega arith

-- how many seats have a ticket of a ring's Head
abbrev pub holders : Setup → Machine → ℕ → ℕ
holders c m r = total (λ p. is_any (ticket_on r p)) m.part c.seats

pub head_gap : (c : Setup) (m : Machine) → IsReachable c m → (r : ℕ)
    → m.cells.head r ≤ m.cells.tail r + holders c m r
head_gap c m reach r =
    let a = m.cells.tail r in
    let d = m.cells.head r - m.cells.tail r in
    let many = many_held (ticket_on r) m.part c.seats a d
    (λ t low under. let one = tickets_held c m reach r t low (omega arith) in
    (one.seat, one.low, one.is)) in
    let few = total_le (λ p. is_in a d (ticket_on r p)) (λ p. is_any (ticket_on r p)) m.part
    (λ k. in_any a d (ticket_on r (m.part k))) c.seats in
    omega arith
