-- Each turn is its event: what held before its event, and with it that the state changes as the event says.
use Rattle.std.proofs.Common.{◌≡◌, ℕ, ◌+◌, ◌<◌, true, false, ◌&&◌, List, length, refl, ◌∙◌, inl, inr, arith, eq-eqb, ne_eqb, ltb-true, leb-true}
use Rattle.std.specs.Prelude.{◌==◌, nat_lt, nat_le, Some}
use Rattle.std.proofs.lemmas.Bool.{cases_Bool, cases_eq, leb-false, ltb-false}
use Rattle.scq_word.specs.declared.setup.Setup.{Setup}
use Rattle.scq_word.specs.Exports.{packed, cycle_in, is_none_in}
use Rattle.scq_core.specs.declared.phase.Phase.{Phase}
use Rattle.scq_core.specs.declared.phase.Phase.TheVariants.{Idle, AtE1, AtE2, AtE3, AtE4, AtE5, AtE6, AtD1, AtD2, AtD3, AtD4, AtD5, AtD6, AtD7, AtD8, AtD9, AtD10}
use Rattle.scq_core.specs.declared.step.Step.{Step}
use Rattle.scq_core.specs.Exports.{SeatPart, ring_slots, cycle, zero_level, reset_level, after, turn_of, moved, passed, Busy, word_at, Stance}
use Rattle.scq_core.specs.Exports.{stance_of}
use Rattle.scq_core.specs.Machine.{Machine}
use Rattle.scq_core.proofs.UpdatedLemmas.{updated_here, updated_else}
use Rattle.scq_core.proofs.Turns.{awake}
use Rattle.scq_core.proofs.Steady.{has}
use Rattle.scq_law.specs.Exports.{call_of, opening_put}
use Rattle.scq_law.proofs.Base.Ghosts.{Ghost, pending, placed, opened, dead}
use Rattle.scq_law.proofs.Base.TicketEvents.{event, stance_by}
use Rattle.scq_law.proofs.Base.Traces.{event_of}
use Rattle.scq_law.proofs.Base.EventFacts.{Rests, Proper, EventFacts}
use Rattle.scq_law.proofs.Base.BaseGroup.{IsBooked, IsDrawn, Claims, Knows, Passed, Holds}
use Rattle.scq_law.proofs.Base.GiveUpEffects.{died_unplaced}
use Rattle.scq_law.proofs.Base.PlaceEffects.{laid_waits}
use Rattle.scq_law.proofs.Base.EntryWrites.{closes_later, closes_passed, fills_packed}
use Rattle.scq_law.proofs.Window.FailCauses.{placement, fail_cause}
use Rattle.scq_law.proofs.Base.TurnOutcomes.{found, content}
use Rattle.scq_law.proofs.Base.Based.{IsBased, turn_claims, turn_knows}
use Rattle.scq_law.proofs.Base.TurnOrigins.{From, is_first_step, came_from, goes_from}
use Rattle.scq_law.proofs.Base.TurnChanges.{ChangesOf, changes}

-- what held before the event of a turn
abbrev pub ProperOf : Setup → Machine → Ghost → ℕ → Phase → Type 0
ProperOf c m g k turn = Proper c m g k (event_of c m turn)

module _ (c : Setup) (m : Machine) (g : Ghost) (k : ℕ) (booked : IsBooked c m.cells.entries g) (drawn : IsDrawn c m.cells.tail m.cells.head g) where
  proper_E1 : (r i : ℕ) (w : List ℕ) (l : ℕ) → From (m.part k) (AtE1 r i w l) → Busy c m.cells (m.part k).hand (AtE1 r i w l) → ProperOf c m g k (AtE1 r i w l)
  proper_E1 r i w l from busy =
      let offers = busy.0 in
      elim (cases_Bool (nat_le c.limit (m.cells.tail r))) [
        | inl past ↦
            rw past
            (record { at_tail = refl; past = leb-true c.limit (m.cells.tail r) past; ring = offers.ring; was = elim from [ inl s ↦ inl (record { rests = s.rests; keeps = s.keeps }) | inr o ↦ inr (i, w, o.stance) ] })
        | inr under ↦
            rw under
            (record {
              at_tail = refl;
              low = leb-false c.limit (m.cells.tail r) under;
              ring = offers.ring;
              index = offers.index;
              held = offers.held;
              was = elim from [ inl s ↦ inl (record { rests = s.rests; keeps = s.keeps }) | inr o ↦ inr o.stance ];
              fresh = drawn.tails r (m.cells.tail r) (omega arith);
            })
      ]

  proper_E2 : (r i : ℕ) (w : List ℕ) (t l : ℕ) → From (m.part k) (AtE2 r i w t l) → Busy c m.cells (m.part k).hand (AtE2 r i w t l) → g.puts r t ≡ pending k i
      → ProperOf c m g k (AtE2 r i w t l)
  proper_E2 r i w t l from busy mine =
      let x = word_at c m.cells r t in
      let offers = busy.0 in
      let low = busy.1 in
      elim (cases_Bool (nat_lt (cycle_in (ring_slots c) x) (cycle c t) && is_none_in (ring_slots c) x)) [
        | inl fits ↦ rw fits tt
        | inr fails ↦
            rw fails
            (record { was = goes_from (m.part k) (AtE2 r i w t l) refl from; pending = mine; index = offers.index; held = offers.held; cause = fail_cause c m.cells.entries g m.cells.tail m.cells.head k r i t booked drawn low.first mine fails })
      ]

  proper_E3 : (r i : ℕ) (w : List ℕ) (t e : ℕ) → From (m.part k) (AtE3 r i w t e) → Busy c m.cells (m.part k).hand (AtE3 r i w t e) → g.puts r t ≡ pending k i
      → ProperOf c m g k (AtE3 r i w t e)
  proper_E3 r i w t e from busy mine =
      let offers = busy.0 in
      elim (cases_Bool (nat_le (m.cells.head r) t)) [
        | inl low ↦ rw low tt
        | inr fails ↦
            rw fails
            (record { was = goes_from (m.part k) (AtE3 r i w t e) refl from; pending = mine; index = offers.index; held = offers.held; cause = inl (leb-false (m.cells.head r) t fails) })
      ]

  proper_E4 : (r i : ℕ) (w : List ℕ) (t e : ℕ) → From (m.part k) (AtE4 r i w t e) → Busy c m.cells (m.part k).hand (AtE4 r i w t e) → g.puts r t ≡ pending k i
      → Passed c m.cells.entries.word g.gets r t e → ProperOf c m g k (AtE4 r i w t e)
  proper_E4 r i w t e from busy mine passed =
      let x = word_at c m.cells r t in
      let offers = busy.0 in
      elim (cases_eq x e) [
        | inl hit ↦
            let none : is_none_in (ring_slots c) x ≡ true = rw hit busy.3 in
            let lags = busy.2 in
            let earlier : cycle_in (ring_slots c) x < cycle c t = rw hit lags.earlier in
            rw (eq-eqb x e hit)
            (record {
              was = goes_from (m.part k) (AtE4 r i w t e) refl from;
              pending = mine;
              index = offers.index;
              held = offers.held;
              waits =
                  laid_waits c m.cells.entries g k r t i (packed (ring_slots c) (cycle c t) 1 i) w opening_put mine offers.index
                  (fills_packed c x t i none earlier offers.index) (rw hit passed) booked;
            })
        | inr miss ↦ rw (ne_eqb x e miss) tt
      ]

  proper_E5 : (r i : ℕ) (w : List ℕ) (t : ℕ) → From (m.part k) (AtE5 r i w t) → g.puts r t ≡ placed i w (call_of k (length (m.part k).calls))
      → ProperOf c m g k (AtE5 r i w t)
  proper_E5 r i w t from mine =
      elim (cases_Bool (m.cells.threshold r == reset_level c)) [
        | inl high ↦ rw high (record { was = goes_from (m.part k) (AtE5 r i w t) refl from; placed = mine })
        | inr low ↦ rw low tt
      ]

module _ (c : Setup) (m : Machine) (g : Ghost) (k : ℕ) (booked : IsBooked c m.cells.entries g) (drawn : IsDrawn c m.cells.tail m.cells.head g) where
  proper_D1 : (r : ℕ) → From (m.part k) (AtD1 r) → r < c.rings → ProperOf c m g k (AtD1 r)
  proper_D1 r from ring =
      let rests : Rests m k =
      elim from [ inl s ↦ record { rests = s.rests; keeps = s.keeps } | inr o ↦ let on = o.on in absurd (cc) ] in
      elim (cases_Bool (nat_lt (m.cells.threshold r) zero_level)) [
        | inl low ↦ rw low (record { was = rests; ring = ring; level = ltb-true (m.cells.threshold r) zero_level low })
        | inr high ↦ rw high (record { was = rests; ring = ring; level = ltb-false (m.cells.threshold r) zero_level high })
      ]

  proper_D2 : (r l : ℕ) → From (m.part k) (AtD2 r l) → ProperOf c m g k (AtD2 r l)
  proper_D2 r l from =
      let was = goes_from (m.part k) (AtD2 r l) refl from in
      elim (cases_Bool (nat_le c.limit (m.cells.head r))) [
        | inl past ↦ rw past (record { at_head = refl; past = leb-true c.limit (m.cells.head r) past; was = was })
        | inr under ↦
            rw under
            (record {
              at_head = refl;
              low = leb-false c.limit (m.cells.head r) under;
              was = was;
              unopened = drawn.heads r (m.cells.head r) (omega arith);
            })
      ]

  proper_D3 : (r h l : ℕ) → From (m.part k) (AtD3 r h l) → g.gets r h ≡ opened k → ProperOf c m g k (AtD3 r h l)
  proper_D3 r h l from mine =
      let x = word_at c m.cells r h in
      elim (cases_eq (cycle_in (ring_slots c) x) (cycle c h)) [
        | inl same ↦ rw (eq-eqb (cycle_in (ring_slots c) x) (cycle c h) same) tt
        | inr other ↦
            elim (cases_Bool (nat_lt (cycle_in (ring_slots c) x) (cycle c h))) [
              | inl lower ↦ rw (ne_eqb (cycle_in (ring_slots c) x) (cycle c h) other, lower) tt
              | inr higher ↦
                  let high = ltb-false (cycle_in (ring_slots c) x) (cycle c h) higher in
                  let later : cycle c h < cycle_in (ring_slots c) x = omega arith in
                  rw (ne_eqb (cycle_in (ring_slots c) x) (cycle c h) other, higher)
                  (record {
                    was = goes_from (m.part k) (AtD3 r h l) refl from;
                    opened = mine;
                    empty = died_unplaced c m.cells.entries g k r h x mine (closes_later (ring_slots c) x (cycle c h) later) booked;
                  })
            ]
      ]

  proper_D4 : (r h : ℕ) → From (m.part k) (AtD4 r h) → g.gets r h ≡ opened k → Holds c m.cells.entries.word r h → ProperOf c m g k (AtD4 r h)
  proper_D4 r h from mine there =
      let both = booked.live r h there in
      let at = placement g r h both.0 in
      let stands = booked.stands r h at.index at.content at.maker at.is both.1 in
      record {
        was = goes_from (m.part k) (AtD4 r h) refl from;
        opened = mine;
        maker = at.maker;
        placed = rw (stands.index, stands.content) at.is;
      }

  proper_D5 : (r h e : ℕ) → From (m.part k) (AtD5 r h e) → Busy c m.cells (m.part k).hand (AtD5 r h e) → g.gets r h ≡ opened k → ProperOf c m g k (AtD5 r h e)
  proper_D5 r h e from busy mine =
      let x = word_at c m.cells r h in
      elim (cases_eq x e) [
        | inl hit ↦
            let lags = busy.2 in
            let earlier : cycle_in (ring_slots c) x < cycle c h = rw hit lags.earlier in
            rw (eq-eqb x e hit)
            (record {
              was = goes_from (m.part k) (AtD5 r h e) refl from;
              opened = mine;
              empty = died_unplaced c m.cells.entries g k r h (passed c h x) mine (closes_passed c h x earlier) booked;
            })
        | inr miss ↦ rw (ne_eqb x e miss) tt
      ]

  proper_D6 : (r h : ℕ) → From (m.part k) (AtD6 r h) → g.gets r h ≡ dead → ProperOf c m g k (AtD6 r h)
  proper_D6 r h from mine =
      elim (cases_Bool (nat_le (m.cells.tail r) (h + 1))) [
        | inl low ↦
            rw low
            (record { was = goes_from (m.part k) (AtD6 r h) refl from; dead = mine; low = leb-true (m.cells.tail r) (h + 1) low })
        | inr high ↦ rw high tt
      ]

  proper_D7 : (r h from to : ℕ) → From (m.part k) (AtD7 r h from to) → Busy c m.cells (m.part k).hand (AtD7 r h from to) → ProperOf c m g k (AtD7 r h from to)
  proper_D7 r h from to came busy =
      let catch = busy.2 in
      elim (cases_eq (m.cells.tail r) from) [
        | inl hit ↦
            let rises = catch.rises in
            rw (eq-eqb (m.cells.tail r) from hit)
            (record { was = goes_from (m.part k) (AtD7 r h from to) refl came; rises = omega arith; low = catch.behind_head })
        | inr miss ↦ rw (ne_eqb (m.cells.tail r) from miss) tt
      ]

  proper_D10 : (r h : ℕ) → From (m.part k) (AtD10 r h false) → g.gets r h ≡ dead → ProperOf c m g k (AtD10 r h false)
  proper_D10 r h from mine =
      let was = goes_from (m.part k) (AtD10 r h false) refl from in
      elim (cases_Bool (nat_le (m.cells.threshold r) zero_level)) [
        | inl low ↦ rw low (record { was = inr (was, leb-true (m.cells.threshold r) zero_level low); dead = mine })
        | inr high ↦ rw high (record { was = was; dead = mine; level = leb-false (m.cells.threshold r) zero_level high })
      ]

  proper : (turn : Phase) → (turn ≡ Idle → ⊥) → From (m.part k) turn → Busy c m.cells (m.part k).hand turn
      → Claims g k (length (m.part k).calls) (stance_of turn)
      → Knows c m.cells.entries.word g.gets turn → ProperOf c m g k turn
  proper Idle awake from busy claims knows = absurd (awake refl)
  proper (AtE1 r i w l) awake from busy claims knows = proper_E1 c m g k booked drawn r i w l from busy
  proper (AtE2 r i w t l) awake from busy claims knows = proper_E2 c m g k booked drawn r i w t l from busy claims
  proper (AtE3 r i w t e) awake from busy claims knows = proper_E3 c m g k booked drawn r i w t e from busy claims
  proper (AtE4 r i w t e) awake from busy claims knows = proper_E4 c m g k booked drawn r i w t e from busy claims knows
  proper (AtE5 r i w t) awake from busy claims knows = proper_E5 c m g k booked drawn r i w t from claims
  proper (AtE6 r i w t) awake from busy claims knows =
      record { was = goes_from (m.part k) (AtE6 r i w t) refl from; placed = claims }
  proper (AtD1 r) awake from busy claims knows = proper_D1 r from busy
  proper (AtD2 r l) awake from busy claims knows = proper_D2 r l from
  proper (AtD3 r h l) awake from busy claims knows = proper_D3 r h l from claims
  proper (AtD4 r h) awake from busy claims knows = proper_D4 r h from claims knows
  proper (AtD5 r h e) awake from busy claims knows = proper_D5 r h e from busy claims
  proper (AtD6 r h) awake from busy claims knows = proper_D6 r h from claims
  proper (AtD7 r h from to) awake came busy claims knows = proper_D7 r h from to came busy
  proper (AtD8 r h from) awake came busy claims knows = tt
  proper (AtD9 r h from to) awake came busy claims knows = tt
  proper (AtD10 r h true) awake from busy claims knows =
      record { was = inl (goes_from (m.part k) (AtD10 r h true) refl from); dead = claims }
  proper (AtD10 r h false) awake from busy claims knows = proper_D10 r h from claims

-- what the stance is after a call's first step does not depend on what it was
first_forgets : (c : Setup) (turn : Phase) (x : ℕ) (y : List ℕ) (s z : Stance) → is_first_step turn ≡ true
    → stance_by (event c turn x y) s ≡ stance_by (event c turn x y) z
first_forgets c (AtE1 r i w l) x y s z first =
    elim (cases_Bool (nat_le c.limit x)) [ inl past ↦ rw past refl | inr under ↦ rw under refl ]
first_forgets c (AtD1 r) x y s z first =
    elim (cases_Bool (nat_lt x zero_level)) [ inl low ↦ rw low refl | inr high ↦ rw high refl ]
first_forgets c turn x y s z first = absurd (cc)

-- the stance afterwards, recorded from the seat's own before
pub own_stance : (c : Setup) (p : SeatPart) (turn : Phase) (x : ℕ) (y : List ℕ) → From p turn
    → stance_by (event c turn x y) (stance_of turn) ≡ stance_by (event c turn x y) (stance_of p.phase)
own_stance c p turn x y from =
    elim from [
      | inl s ↦ first_forgets c turn x y (stance_of turn) (stance_of p.phase) s.first
      | inr o ↦ rw o.stance refl
    ]

-- an enabled turn of a seat, from a state with the base group
pub event_facts : (c : Setup) (m : Machine) (g : Ghost) (k : ℕ) (s : Step) (turn : Phase) → turn_of c (m.part k) s ≡ Some turn → IsBased c g m
    → EventFacts c m g k (event_of c m turn) (moved c m k turn)
event_facts c m g k s turn enabled base =
    let p = m.part k in
    let from = came_from c p s turn enabled in
    let awake_turn = awake c p.hand p.spent p.phase s turn enabled in
    let busy = has c m.cells p s turn (base.steady.busy k) enabled in
    let claims = turn_claims c g p k (length p.calls) s turn enabled (base.claims k) in
    let knows = turn_knows c m.cells g p s turn enabled (base.knows k) in
    let x = found c m.cells turn in
    let y = content c m.cells turn in
    let ch : ChangesOf c m.cells p turn = changes c m.cells p turn awake_turn in
    let here = updated_here m.part k (after c turn x y p) in
    record {
      proper = proper c m g k base.booked base.drawn turn awake_turn from busy claims knows;
      stance = rw here (ch.stance ∙ own_stance c p turn x y from);
      hand = rw here ch.hand;
      calls = rw here ch.calls;
      kept = rw here ch.kept;
      others = λ j other. updated_else m.part k (after c turn x y p) j other;
      tail = ch.tail;
      head = ch.head;
      threshold = ch.threshold;
      opening = refl;
    }
