-- Each step of a seat leaves its call fewer steps. Plan: by turns; ranks, Tail and tickets rise as the seat has it, and all
-- are below their bounds.
use Rattle.std.proofs.Common.{◌≡◌, ℕ, ◌+◌, ◌-◌, ◌*◌, ◌<◌, ◌≤◌, true, false, ◌&&◌, refl, inl, inr, arith, eq-eqb, ne_eqb}
use Rattle.std.specs.Prelude.{◌==◌, nat_lt, nat_le}
use Rattle.std.proofs.Math.Nat.{mul-le-mul_right}
use Rattle.std.proofs.lemmas.Bool.{cases_Bool, cases_eq}
use Rattle.scq_word.specs.declared.setup.Setup.{Setup}
use Rattle.scq_word.specs.Exports.{safe_in, cycle_in, is_none_in, rank_in}
use Rattle.scq_core.specs.declared.phase.Phase.{Phase}
use Rattle.scq_core.specs.declared.phase.Phase.TheVariants.{Idle, AtE1, AtE2, AtE3, AtE4, AtE5, AtE6, AtD1, AtD2, AtD3, AtD4, AtD5, AtD6, AtD7, AtD8, AtD9, AtD10}
use Rattle.scq_core.specs.Exports.{Cells, SeatPart, read, beside, ring_slots, cycle, zero_level, reset_level, location_of, after, IsReachable, Busy}
use Rattle.scq_core.specs.Exports.{word_at}
use Rattle.scq_core.specs.Machine.{Machine}
use Rattle.scq_core.proofs.Turns.{awake}
use Rattle.scq_core.proofs.Entries.{some_slots, cycle_below_limit}
use Rattle.scq_core.proofs.Steady.{has, steady}
use Rattle.scq_core.proofs.Limits.{counters_bounded}
use Rattle.scq_law.specs.Exports.{top, ticket_steps, steps_past, ticket_steps_from, call_steps, steps_left, CallsEnd}
use Rattle.scq_law.proofs.Retries.RetryLaws.{earlier_rank, risen}

module _ (c : Setup) where
  -- a word of an earlier cycle than that of a ticket below the limit has a rank below the top
  below_top : (x t : ℕ) → t < c.limit → cycle_in (ring_slots c) x < cycle c t → rank_in (ring_slots c) x < top c
  below_top x t low earlier =
      let rank = earlier_rank (ring_slots c) x (cycle c t) earlier in
      let some = some_slots c in
      let fits = cycle_below_limit c t low in
      let more : 1 * cycle c t ≤ ring_slots c * cycle c t = mul-le-mul_right (cycle c t) some in
      grind arith

  -- a later ticket leaves fewer steps
  past_later : (t u : ℕ) → t ≤ u → steps_past c u ≤ steps_past c t
  past_later t u le = mul-le-mul_right (ticket_steps c) (omega arith)

  from_is : (l : ℕ) → ticket_steps_from c l ≡ steps_past c l + ticket_steps c
  from_is l = grind arith

  -- the next ticket after one below the limit
  from_next : (t : ℕ) → t < c.limit → ticket_steps_from c (t + 1) ≡ steps_past c t
  from_next t low = let same : c.limit - (t + 1) + 1 ≡ c.limit - t = omega arith in rw same refl

  -- a ticket that is drawn
  drawn_fewer : (l x much : ℕ) → l ≤ x → much < ticket_steps c → steps_past c x + much < ticket_steps_from c l
  drawn_fewer l x much le few =
      let later = past_later l x le in let sum = from_is l in omega arith

  module _ (m : Cells) (p : SeatPart) (bound : (r : ℕ) → m.tail r ≤ c.limit + c.seats) where
    abbrev FewerBy : Phase → Type 0
    FewerBy turn = steps_left c (after c turn (read m (location_of c turn)) (beside m (location_of c turn)) p).phase < steps_left c turn

    fewer : (turn : Phase) → (turn ≡ Idle → ⊥) → Busy c m p.hand turn → FewerBy turn
    fewer Idle awake busy = absurd (awake refl)
    fewer (AtE1 r i w l) awake busy =
        let le = busy.1 in
        elim (cases_Bool (nat_le c.limit (m.tail r))) [
          | inl past ↦ rw past (let sum = from_is l in omega arith)
          | inr under ↦ rw under (let drawn = drawn_fewer l (m.tail r) (3 * top c + 5) le (omega arith) in omega arith)
        ]
    fewer (AtE2 r i w t l) awake busy =
        let x = word_at c m r t in
        let drawn = busy.1 in
        let low = drawn.below_limit in
        let least = busy.2 in
        elim (cases_Bool (nat_lt (cycle_in (ring_slots c) x) (cycle c t) && is_none_in (ring_slots c) x)) [
          | inl fits ↦
              elim (cases_Bool (safe_in (ring_slots c) x == 1)) [
                | inl safe ↦ rw (fits, safe) (omega arith)
                | inr unsafe ↦ rw (fits, unsafe) (omega arith)
              ]
          | inr fails ↦ rw fails (let next = from_next t low in omega arith)
        ]
    fewer (AtE3 r i w t e) awake busy =
        let drawn = busy.1 in
        let low = drawn.below_limit in
        elim (cases_Bool (nat_le (m.head r) t)) [
          | inl at ↦ rw at (omega arith)
          | inr fails ↦ rw fails (let next = from_next t low in omega arith)
        ]
    fewer (AtE4 r i w t e) awake busy =
        let x = word_at c m r t in let drawn = busy.1 in let lags = busy.2 in
        let high = below_top e t drawn.below_limit lags.earlier in
        elim (cases_eq x e)
        [ inl hit ↦ rw (eq-eqb x e hit) (omega arith) | inr miss ↦ let rose = risen (ring_slots c) e x lags.above miss in rw (ne_eqb x e miss) (omega arith) ]
    fewer (AtE5 r i w t) awake busy =
        elim (cases_Bool (m.threshold r == reset_level c)) [ inl high ↦ rw high (omega arith) | inr low ↦ rw low (omega arith) ]
    fewer (AtE6 r i w t) awake busy = omega arith
    fewer (AtD1 r) awake busy =
        elim (cases_Bool (nat_lt (m.threshold r) zero_level)) [ inl low ↦ rw low (omega arith) | inr high ↦ rw high (omega arith) ]
    fewer (AtD2 r l) awake busy =
        let le = busy.1 in
        elim (cases_Bool (nat_le c.limit (m.head r))) [
          | inl past ↦ rw past (let sum = from_is l in omega arith)
          | inr under ↦ rw under (let drawn = drawn_fewer l (m.head r) (5 * top c + 8) le (omega arith) in omega arith)
        ]
    fewer (AtD3 r h l) awake busy =
        let x = word_at c m r h in
        let least = busy.2 in
        elim (cases_Bool (cycle_in (ring_slots c) x == cycle c h)) [
          | inl same ↦ rw same (omega arith)
          | inr other ↦
              elim (cases_Bool (nat_lt (cycle_in (ring_slots c) x) (cycle c h)))
              [ inl lower ↦ rw (other, lower) (omega arith) | inr higher ↦ rw (other, higher) (omega arith) ]
        ]
    fewer (AtD4 r h) awake busy = omega arith
    fewer (AtD5 r h e) awake busy =
        let x = word_at c m r h in
        let drawn = busy.1 in
        let lags = busy.2 in
        let high = below_top e h drawn.below_limit lags.earlier in
        elim (cases_eq x e)
        [ inl hit ↦ rw (eq-eqb x e hit) (omega arith) | inr miss ↦ let rose = risen (ring_slots c) e x lags.above miss in rw (ne_eqb x e miss) (omega arith) ]
    fewer (AtD6 r h) awake busy =
        elim (cases_Bool (nat_le (m.tail r) (h + 1))) [ inl low ↦ rw low (omega arith) | inr high ↦ rw high (omega arith) ]
    fewer (AtD7 r h from to) awake busy =
        elim (cases_Bool (m.tail r == from)) [ inl hit ↦ rw hit (omega arith) | inr miss ↦ rw miss (omega arith) ]
    fewer (AtD8 r h from) awake busy = omega arith
    fewer (AtD9 r h from to) awake busy =
        let up = busy.2 in
        let few = bound r in
        elim (cases_Bool (nat_le to (m.tail r))) [ inl caught ↦ rw caught (omega arith) | inr under ↦ rw under (omega arith) ]
    fewer (AtD10 r h true) awake busy = omega arith
    fewer (AtD10 r h false) awake busy =
        let drawn = busy.1 in
        let low = drawn.below_limit in
        elim (cases_Bool (nat_le (m.threshold r) zero_level)) [
          | inl down ↦ rw down (omega arith)
          | inr up ↦ rw up (let next = from_next h low in omega arith)
        ]

  -- no call has more left than the most
  most_steps : (phase : Phase) → steps_left c phase ≤ call_steps c
  most_steps (AtE1 r i w l) = let all = from_is 0 in let some = from_is l in let le = past_later 0 l (omega arith) in omega arith
  most_steps (AtE2 r i w t l) = let all = from_is 0 in let le = past_later 0 t (omega arith) in omega arith
  most_steps (AtE3 r i w t e) = let all = from_is 0 in let le = past_later 0 t (omega arith) in omega arith
  most_steps (AtE4 r i w t e) = let all = from_is 0 in let le = past_later 0 t (omega arith) in omega arith
  most_steps (AtD2 r l) = let all = from_is 0 in let some = from_is l in let le = past_later 0 l (omega arith) in omega arith
  most_steps (AtD3 r h l) = let all = from_is 0 in let le = past_later 0 h (omega arith) in omega arith
  most_steps (AtD5 r h e) = let all = from_is 0 in let le = past_later 0 h (omega arith) in omega arith
  most_steps (AtD6 r h) = let all = from_is 0 in let le = past_later 0 h (omega arith) in omega arith
  most_steps (AtD10 r h true) = let all = from_is 0 in omega arith
  most_steps (AtD10 r h false) = let all = from_is 0 in let le = past_later 0 h (omega arith) in omega arith
  most_steps phase = let all = from_is 0 in omega arith

pub calls_end : (c : Setup) (m : Machine) → IsReachable c m → CallsEnd c m
calls_end c m reach =
    let bounds = counters_bounded c m reach in
    record {
      fewer =
          λ k s turn enabled.
          let p = m.part k in
          fewer c m.cells p
          (λ r. let few = bounds.spent in let tail = bounds.tail r in omega arith)
          turn
          (awake c p.hand p.spent p.phase s turn enabled)
          (has c m.cells p s turn ((steady c m reach).busy k) enabled);
      most = most_steps c;
    }
