-- A dequeue takes or gives up only once Tail is past its ticket. Plan: one that catches up aims
-- past its ticket; one that is about to take found an index, which a put with that ticket placed.
use Rattle.std.proofs.Common.{◌≡◌, ℕ, ◌+◌, ◌<◌, true, false, ◌&&◌, List, refl, sym, ap, ◌∙◌, inl, inr, arith, eq-eqb, ne_eqb, leb-true}
use Rattle.std.specs.Prelude.{◌==◌, nat_lt, nat_le, Some}
use Rattle.std.proofs.lemmas.Bool.{cases_Bool, cases_eq, cases_lt, leb-false}
use Rattle.scq_word.specs.declared.setup.Setup.{Setup}
use Rattle.scq_word.specs.Exports.{safe_in, cycle_in, is_none_in}
use Rattle.scq_core.specs.declared.phase.Phase.{Phase}
use Rattle.scq_core.specs.declared.phase.Phase.TheVariants.{Idle, AtE1, AtE2, AtE3, AtE4, AtE5, AtE6, AtD1, AtD2, AtD3, AtD4, AtD5, AtD6, AtD7, AtD8, AtD9, AtD10}
use Rattle.scq_core.specs.declared.step.Step.{Step}
use Rattle.scq_core.specs.Exports.{Cells, SeatPart, read, beside, ring_slots, cycle, zero_level, reset_level, turn_of, location_of, after}
use Rattle.scq_core.specs.Exports.{cells_after, moved, IsReachable, at_start, by_step, CountersRise, Busy, word_at}
use Rattle.scq_core.specs.Machine.{Machine}
use Rattle.scq_core.proofs.UpdatedLemmas.{updated_here, updated_cases}
use Rattle.scq_core.proofs.Turns.{turned, Begins, begins_put, begins_get, begins, awake}
use Rattle.scq_core.proofs.Steady.{has, steady}
use Rattle.scq_core.proofs.Ranks.{counters_rise}
use Rattle.scq_law.proofs.Base.Ghosts.{Ghost, is_placed}
use Rattle.scq_law.proofs.Base.BaseGroup.{Knows}
use Rattle.scq_law.proofs.Base.Based.{IsBased, based, turn_knows}
use Rattle.scq_law.proofs.Base.Traces.{has_trace}

-- a dequeue that catches up aims past its ticket, and Tail is past the ticket once it is done with
-- it
abbrev pub Caught : Cells → Phase → Type 0
Caught m (AtD7 r h from to) = h < to
Caught m (AtD9 r h from to) = h < to
Caught m (AtD10 r h leaving) = h < m.tail r
Caught m phase = Unit {0}

caught_lasts : (m n : Cells) (phase : Phase) → CountersRise m n → Caught m phase → Caught n phase
caught_lasts m n (AtD7 r h from to) up low = low
caught_lasts m n (AtD9 r h from to) up low = low
caught_lasts m n (AtD10 r h leaving) up low = let rises = up.tail r in omega arith
caught_lasts m n phase up low = tt

module _ (c : Setup) (m : Cells) (p : SeatPart) where
  abbrev CaughtThen : Phase → Type 0
  CaughtThen turn = Caught (cells_after c turn m)
      (after c turn (read m (location_of c turn)) (beside m (location_of c turn)) p).phase

  caught_turn : (turn : Phase) → (turn ≡ Idle → ⊥) → Busy c m p.hand turn → Caught m turn
      → CaughtThen turn
  caught_turn Idle awake busy was = absurd (awake refl)
  caught_turn (AtE1 r i w l) awake busy was =
      elim (cases_Bool (nat_le c.limit (m.tail r)))
      [ inl past ↦ rw past tt | inr under ↦ rw under tt ]
  caught_turn (AtE2 r i w t l) awake busy was =
      let x = word_at c m r t in
      elim (cases_Bool (nat_lt (cycle_in (ring_slots c) x) (cycle c t) && is_none_in (ring_slots c)
      x)) [
        | inl fits ↦
            elim (cases_Bool (safe_in (ring_slots c) x == 1))
            [ inl safe ↦ rw (fits, safe) tt | inr unsafe ↦ rw (fits, unsafe) tt ]
        | inr fails ↦ rw fails tt
      ]
  caught_turn (AtE3 r i w t e) awake busy was =
      elim (cases_Bool (nat_le (m.head r) t)) [ inl low ↦ rw low tt | inr fails ↦ rw fails tt ]
  caught_turn (AtE4 r i w t e) awake busy was =
      elim (cases_Bool (word_at c m r t == e)) [ inl hit ↦ rw hit tt | inr miss ↦ rw miss tt ]
  caught_turn (AtE5 r i w t) awake busy was =
      elim (cases_Bool (m.threshold r == reset_level c))
      [ inl high ↦ rw high tt | inr low ↦ rw low tt ]
  caught_turn (AtE6 r i w t) awake busy was = tt
  caught_turn (AtD1 r) awake busy was =
      elim (cases_Bool (nat_lt (m.threshold r) zero_level))
      [ inl low ↦ rw low tt | inr high ↦ rw high tt ]
  caught_turn (AtD2 r l) awake busy was =
      elim (cases_Bool (nat_le c.limit (m.head r)))
      [ inl past ↦ rw past tt | inr under ↦ rw under tt ]
  caught_turn (AtD3 r h l) awake busy was =
      let x = word_at c m r h in
      elim (cases_Bool (cycle_in (ring_slots c) x == cycle c h)) [
        | inl same ↦ rw same tt
        | inr other ↦
            elim (cases_Bool (nat_lt (cycle_in (ring_slots c) x) (cycle c h)))
            [ inl lower ↦ rw (other, lower) tt | inr higher ↦ rw (other, higher) tt ]
      ]
  caught_turn (AtD4 r h) awake busy was = tt
  caught_turn (AtD5 r h e) awake busy was =
      elim (cases_Bool (word_at c m r h == e)) [ inl hit ↦ rw hit tt | inr miss ↦ rw miss tt ]
  caught_turn (AtD6 r h) awake busy was =
      let same = updated_here m.tail r (m.tail r) in
      elim (cases_Bool (nat_le (m.tail r) (h + 1))) [
        | inl low ↦ rw low (omega arith)
        | inr high ↦ let over = leb-false (m.tail r) (h + 1) high in rw high (omega arith)
      ]
  caught_turn (AtD7 r h from to) awake busy was =
      let here = updated_here m.tail r to in
      elim (cases_eq (m.tail r) from) [
        | inl hit ↦ rw (eq-eqb (m.tail r) from hit) (omega arith)
        | inr miss ↦ rw (ne_eqb (m.tail r) from miss) tt
      ]
  caught_turn (AtD8 r h from) awake busy was = let drawn = busy.1 in drawn.below
  caught_turn (AtD9 r h from to) awake busy was =
      let same = updated_here m.tail r (m.tail r) in
      elim (cases_Bool (nat_le to (m.tail r))) [
        | inl caught ↦ let le = leb-true to (m.tail r) caught in rw caught (omega arith)
        | inr under ↦ rw under was
      ]
  caught_turn (AtD10 r h true) awake busy was = tt
  caught_turn (AtD10 r h false) awake busy was =
      elim (cases_Bool (nat_le (m.threshold r) zero_level))
      [ inl low ↦ rw low tt | inr high ↦ rw high tt ]

begun_caught : (c : Setup) (m : Cells) (hand : List ℕ) (turn : Phase) → Begins c hand turn
    → Caught m turn
begun_caught c m hand turn (begins_put r i w low small held) = tt
begun_caught c m hand turn (begins_get r low) = tt

-- an enabled turn has what its seat's phase has
pub caught_at : (c : Setup) (m : Cells) (p : SeatPart) (s : Step) (turn : Phase)
    → turn_of c p s ≡ Some turn → Caught m p.phase → Caught m turn
caught_at c m p s turn enabled was =
    elim (begins c p.hand p.spent p.phase s turn enabled) [
      | inl same ↦ rw same was
      | inr new ↦ begun_caught c m p.hand turn new.2
    ]

caught_step : (c : Setup) (m : Machine) (j : ℕ) (s : Step) (turn : Phase) → IsReachable c m
    → turn_of c (m.part j) s ≡ Some turn
    → ((k : ℕ) → Caught m.cells (m.part k).phase) → (k : ℕ)
    → Caught (moved c m j turn).cells ((moved c m j turn).part k).phase
caught_step c m j s turn reach enabled was k =
    let all = steady c m reach in
    let p = m.part j in
    let busy = has c m.cells p s turn (all.busy j) enabled in
    let n = cells_after c turn m.cells in
    let up = counters_rise c m.cells p.hand turn busy in
    updated_cases
    (λ (_ : ℕ) (v : SeatPart). Caught n v.phase)
    m.part
    j
    (after c turn (read m.cells (location_of c turn)) (beside m.cells (location_of c turn)) p)
    k
    (λ _. caught_turn c m.cells p turn (awake c p.hand p.spent p.phase s turn enabled) busy
    (caught_at c m.cells p s turn enabled (was j)))
    (λ _. caught_lasts m.cells n (m.part k).phase up (was k))

pub caught : (c : Setup) (m : Machine) → IsReachable c m → (k : ℕ) → Caught m.cells (m.part k).phase
caught c m (at_start opening full) k = tt
caught c m (by_step {m = b} seat step reach low e) k =
    let t = turned c b seat step m e in
    rw t.next (caught_step c b seat step t.turn reach t.enabled (caught c b reach) k)

-- where a dequeue is about to take, Tail is past its ticket
abbrev pub TakesBelowTail : Cells → Phase → Type 0
TakesBelowTail m (AtD4 r h) = h < m.tail r
TakesBelowTail m phase = Unit {0}

takes_turn : (c : Setup) (m : Machine) (g : Ghost) (turn : Phase) → IsBased c g m
    → Knows c m.cells.entries.word g.gets turn → TakesBelowTail m.cells turn
takes_turn c m g (AtD4 r h) base knows =
    elim (cases_lt h (m.cells.tail r)) [
      | inl less ↦ less
      | inr high ↦
          let live = base.booked.live r h knows in
          let none : is_placed (g.puts r h) ≡ false = ap is_placed (base.drawn.tails r h high) in
          let both : true ≡ false = sym live.0 ∙ none in
          absurd (cc)
    ]
takes_turn c m g turn base knows = tt

pub takes_at : (c : Setup) (m : Machine) (j : ℕ) (s : Step) (turn : Phase) → IsReachable c m
    → turn_of c (m.part j) s ≡ Some turn → TakesBelowTail m.cells turn
takes_at c m j s turn reach enabled =
    let t = has_trace c m reach in
    let base = based c t.time t.ghost m t.trace in
    takes_turn c m t.ghost turn base
    (turn_knows c m.cells t.ghost (m.part j) s turn enabled (base.knows j))
