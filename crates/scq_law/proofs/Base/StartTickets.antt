-- The start, with ring 0 full, has all of the base group.
-- Plan: what stands in a slot is given by `fills`; then each ticket by where it is.
use Rattle.std.proofs.Common.{◌≡◌, ℕ, ◌+◌, ◌-◌, ◌<◌, ◌≤◌, true, false, ◌&&◌, List, [], refl, ap, sym, ◌∙◌, ◌⊎◌, inl, inr, arith, eq-eqb, ne_eqb, eqb-true, leb-true, ltb-true, lt-ltb, le-leb}
use Rattle.std.specs.Prelude.{◌==◌, nat_lt, nat_le, slice_index_or}
use Rattle.std.proofs.lemmas.Bool.{cases_Bool, cases_eq, and_parts, and_from}
use Rattle.scq_word.specs.declared.setup.Setup.{Setup}
use Rattle.scq_word.specs.Exports.{n_of, mark_of, packed, cycle_in, is_none_in}
use Rattle.scq_word.proofs.TicketLemmas.{same_ticket, cycle_of_mono}
use Rattle.scq_word.proofs.WordLemmas.{index_in-packed, cycle_in-packed}
use Rattle.scq_core.specs.Exports.{ring_slots, cycle, slot, unused, filled, start_cells}
use Rattle.scq_core.proofs.Starts.{opening_cycle, Filled, fills}
use Rattle.scq_core.proofs.Entries.{some_slots, some_indices, below_mark, none_in-marked, none_in-filled}
use Rattle.scq_law.specs.Exports.{Maker, opening_put}
use Rattle.scq_law.proofs.Base.Ghosts.{fresh, placed, is_placed, stood, start_ghost}
use Rattle.scq_law.proofs.Base.BaseGroup.{IsBooked, IsDrawn, Holds, Stands, at_ticket}

-- a ticket of the start is one of the opening places, or fresh
pub record Stood (c : Setup) (opening : List (List ℕ)) (r t : ℕ) : Type 0 where
  pub ring : r ≡ 0
  pub first : ring_slots c ≤ t
  pub last : t < ring_slots c + n_of c.order
  pub is : stood c opening r t ≡ placed (t - ring_slots c) (slice_index_or opening (t - ring_slots c) []) opening_put

pub record NotStood (c : Setup) (opening : List (List ℕ)) (r t : ℕ) : Type 0 where
  pub is : stood c opening r t ≡ fresh
  pub out : r ≡ 0 → ring_slots c ≤ t → t < ring_slots c + n_of c.order → ⊥

pub stands_at : (c : Setup) (opening : List (List ℕ)) (r t : ℕ) → Stood c opening r t ⊎ NotStood c opening r t
stands_at c opening r t =
    elim (cases_Bool (r == 0 && nat_le (ring_slots c) t && nat_lt t (ring_slots c + n_of c.order))) [
      | inl holds ↦
          let both = and_parts (r == 0 && nat_le (ring_slots c) t) (nat_lt t (ring_slots c + n_of c.order)) holds in
          let two = and_parts (r == 0) (nat_le (ring_slots c) t) both.0 in
          inl
          (record {
            ring = eqb-true r 0 two.0;
            first = leb-true (ring_slots c) t two.1;
            last = ltb-true t (ring_slots c + n_of c.order) both.1;
            is = rw holds refl;
          })
      | inr fails ↦
          inr
          (record {
            is = rw fails refl;
            out =
                λ ring first last.
                let all : (r == 0 && nat_le (ring_slots c) t && nat_lt t (ring_slots c + n_of c.order)) ≡ true =
                and_from (r == 0 && nat_le (ring_slots c) t) (nat_lt t (ring_slots c + n_of c.order))
                (and_from (r == 0) (nat_le (ring_slots c) t) (eq-eqb r 0 ring) (le-leb (ring_slots c) t first))
                (lt-ltb t (ring_slots c + n_of c.order) last) in
                absurd (cc);
          })
    ]

-- an opening place of this slot is this ticket
pub one_place : (c : Setup) (t j : ℕ) → ring_slots c ≤ t → t < ring_slots c + n_of c.order → j < n_of c.order → slot c t ≡ slot c (ring_slots c + j)
    → t ≡ ring_slots c + j
one_place c t j first last low slot =
    let small : t - ring_slots c < ring_slots c = omega arith in
    let same : ring_slots c + (t - ring_slots c) ≡ t = omega arith in
    let turn : cycle c t ≡ 1 = rw same at (opening_cycle c (t - ring_slots c) small) in
    let turn_j : cycle c (ring_slots c + j) ≡ 1 = opening_cycle c j (omega arith) in
    same_ticket c.order t (ring_slots c + j) slot (turn ∙ sym turn_j)

module _ (c : Setup) (opening : List (List ℕ)) where
  -- the words of an unused entry and of a filled one
  none_unused : is_none_in (ring_slots c) (unused (ring_slots c)) ≡ true
  none_unused = none_in-marked (ring_slots c) 0 1 (some_slots c)

  cycle_unused : cycle_in (ring_slots c) (unused (ring_slots c)) ≡ 0
  cycle_unused = cycle_in-packed (ring_slots c) 0 1 (mark_of (ring_slots c)) (omega (arith, some_indices c)) (omega arith)

  some_filled : (j : ℕ) → j < n_of c.order → is_none_in (ring_slots c) (packed (ring_slots c) 1 1 j) ≡ false
  some_filled j low = none_in-filled (ring_slots c) 1 1 j (below_mark c j low)

  cycle_filled : (j : ℕ) → j < n_of c.order → cycle_in (ring_slots c) (packed (ring_slots c) 1 1 j) ≡ 1
  cycle_filled j low = cycle_in-packed (ring_slots c) 1 1 j (omega arith) (omega arith)

  -- an entry of the start
  abbrev word : ℕ → ℕ → ℕ
  word = (start_cells c opening).entries.word

  -- where an index stands, ring and slot are those of an opening place
  holds_filled : (r p : ℕ) → is_none_in (ring_slots c) (at_ticket c word r p) ≡ false → (r ≡ 0) × Filled c opening (n_of c.order) (slot c p)
  holds_filled r p some =
      elim (cases_eq r 0) [
        | inl ring ↦
            let here : is_none_in (ring_slots c) (filled c (n_of c.order) (slot c p)) ≡ false = rw (eq-eqb r 0 ring) at some in
            elim (fills c opening (n_of c.order) (slot c p)) [
              | inl f ↦ (ring, f)
              | inr f ↦ let not : is_none_in (ring_slots c) (unused (ring_slots c)) ≡ false = rw f.word at here in let none = none_unused in absurd (cc)
            ]
        | inr other ↦
            let not : is_none_in (ring_slots c) (unused (ring_slots c)) ≡ false = rw (ne_eqb r 0 other) at some in
            let none = none_unused in
            absurd (cc)
      ]

  start_live : (r p : ℕ) → Holds c word r p → is_placed (stood c opening r p) ≡ true
  start_live r p has =
      let at = holds_filled r p has.index in
      let f = at.1 in
      let low = f.low in
      let turn : cycle_in (ring_slots c) (filled c (n_of c.order) (slot c p)) ≡ cycle c p = rw (eq-eqb r 0 at.0) at has.cycle in
      let one : 1 ≡ cycle c p = sym (cycle_filled f.index low) ∙ sym (ap (cycle_in (ring_slots c)) f.word) ∙ turn in
      let turn_j : cycle c (ring_slots c + f.index) ≡ 1 = opening_cycle c f.index (omega arith) in
      let same : p ≡ ring_slots c + f.index = same_ticket c.order p (ring_slots c + f.index) f.slot (sym one ∙ sym turn_j) in
      elim (stands_at c opening r p) [
        | inl s ↦ rw s.is refl
        | inr s ↦ absurd (s.out at.0 (omega arith) (omega arith))
      ]

  start_stands : (r p i : ℕ) (w : List ℕ) (b : Maker) → stood c opening r p ≡ placed i w b → Stands c (start_cells c opening).entries r p i w
  start_stands r p i w b is =
      elim (stands_at c opening r p) [
        | inr s ↦ let clash : fresh ≡ placed i w b = sym s.is ∙ is in absurd (cc)
        | inl s ↦
            let first = s.first in
            let last = s.last in
            let same : placed (p - ring_slots c) (slice_index_or opening (p - ring_slots c) []) opening_put ≡ placed i w b = sym s.is ∙ is in
            let index : p - ring_slots c ≡ i = cc in
            let content : slice_index_or opening (p - ring_slots c) [] ≡ w = cc in
            let back : ring_slots c + (p - ring_slots c) ≡ p = omega arith in
            elim (fills c opening (n_of c.order) (slot c p)) [
              | inr f ↦ absurd (f.other (p - ring_slots c) (omega arith) (rw back refl))
              | inl f ↦
                  let low = f.low in
                  let place : p ≡ ring_slots c + f.index = one_place c p f.index first last low f.slot in
                  let j : f.index ≡ i = omega arith in
                  let ring = eq-eqb r 0 s.ring in
                  let turn : cycle c (ring_slots c + f.index) ≡ 1 = opening_cycle c f.index (omega arith) in
                  record {
                    holds =
                        record {
                          cycle = rw (ring, f.word) (cycle_filled f.index low ∙ sym turn ∙ ap (cycle c) (sym place));
                          index = rw (ring, f.word) (some_filled f.index low);
                        };
                    index = rw (ring, f.word) (index_in-packed (ring_slots c) 1 1 f.index (omega arith) ∙ j);
                    content = rw ring (f.content ∙ ap (λ x. slice_index_or opening x []) (j ∙ sym index) ∙ content);
                    small = omega arith;
                  }
            ]
      ]

  start_over : (r p : ℕ) → ring_slots c ≤ p → cycle_in (ring_slots c) (at_ticket c word r p) ≡ cycle c p
      → is_none_in (ring_slots c) (at_ticket c word r p) ≡ true → ⊥
  start_over r p first at none =
      let high : 1 ≤ cycle c p =
      (let row : cycle c (ring_slots c + 0) ≡ 1 = opening_cycle c 0 (some_slots c) in
      let mono : cycle c (ring_slots c + 0) ≤ cycle c p = cycle_of_mono (ring_slots c) (ring_slots c + 0) p (some_slots c) (omega arith) in omega arith) in
      let zero_turn = cycle_unused in
      elim (cases_eq r 0) [
        | inl ring ↦
            elim (fills c opening (n_of c.order) (slot c p)) [
              | inl f ↦
                  let not : is_none_in (ring_slots c) (packed (ring_slots c) 1 1 f.index) ≡ true = rw (eq-eqb r 0 ring, f.word) at none in
                  let some = some_filled f.index f.low in
                  absurd (cc)
              | inr f ↦
                  let turn : cycle_in (ring_slots c) (unused (ring_slots c)) ≡ cycle c p = rw (eq-eqb r 0 ring, f.word) at at in
                  omega arith
            ]
        | inr other ↦
            let turn : cycle_in (ring_slots c) (unused (ring_slots c)) ≡ cycle c p = rw (ne_eqb r 0 other) at at in omega arith
      ]

  pub start_booked : IsBooked c (start_cells c opening).entries (start_ghost c opening)
  start_booked =
      record {
        live = λ r p has. (start_live r p has, refl);
        stands = λ r p i w b is waits. start_stands r p i w b is;
        over = λ r p first at none. absurd (start_over r p first at none);
        taken = λ r p k j got. absurd (cc);
        never = λ r p gone. absurd (cc);
        shut = λ r p gone. absurd (cc);
      }

  -- a ticket outside of the opening places is fresh
  fresh_out : (r t : ℕ) → (r ≡ 0 → ring_slots c ≤ t → t < ring_slots c + n_of c.order → ⊥) → stood c opening r t ≡ fresh
  fresh_out r t out =
      elim (stands_at c opening r t) [
        | inl s ↦ absurd (out s.ring s.first s.last)
        | inr s ↦ s.is
      ]

  pub start_drawn : IsDrawn c (start_cells c opening).tail (start_cells c opening).head (start_ghost c opening)
  start_drawn =
      let limits = c.limit_in_range in
      record {
        tails =
            λ r t high.
            fresh_out r t (λ ring first last. let low : ring_slots c + n_of c.order ≤ t = rw (eq-eqb r 0 ring) at high in omega arith);
        heads = λ r t high. refl;
        put_limit = λ r t high. fresh_out r t (λ ring first last. omega arith);
        get_limit = λ r t high. refl;
        put_first = λ r t less. fresh_out r t (λ ring first last. omega arith);
        get_first = λ r t less. refl;
        first_tail =
            λ r.
            elim (cases_eq r 0) [
              | inl ring ↦ rw (eq-eqb r 0 ring) (omega arith)
              | inr other ↦ rw (ne_eqb r 0 other) (omega arith)
            ];
        first_head = λ r. omega arith;
      }
