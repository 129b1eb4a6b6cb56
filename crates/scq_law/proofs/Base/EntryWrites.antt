-- The three ways in which a dequeue gives a ticket up, each as a change of the entry's word, and how it takes.
use Rattle.std.proofs.Common.{◌≡◌, ℕ, ◌<◌, inl, inr, true, false, refl, ap, sym, ◌∙◌, arith}
use Rattle.std.proofs.lemmas.Bool.{cases_Bool}
use Rattle.scq_word.specs.declared.setup.Setup.{Setup}
use Rattle.scq_word.specs.Exports.{n_of, mark_of, packed, index_in, safe_in, cycle_in, is_none_in}
use Rattle.scq_word.proofs.WordLemmas.{index_in-packed, safe_in-packed, cycle_in-packed, safe_in_bit, index_in_small}
use Rattle.scq_core.specs.Exports.{ring_slots, cycle, passed, IsAbove}
use Rattle.scq_core.proofs.Entries.{some_slots, some_indices, above_same, none_in-marked, none_in-filled, index_below, below_mark, passing_rises, taking_rises}
use Rattle.scq_law.proofs.Base.GiveUpEffects.{Closes}
use Rattle.scq_law.proofs.Base.TakeEffects.{Empties}
use Rattle.scq_law.proofs.Base.PlaceEffects.{Fills}

-- the entry is of a later cycle, and stays
pub closes_later : (s e d : ℕ) → d < cycle_in s e → Closes s e e d
closes_later s e d later =
    record {
      away = λ same. omega arith;
      shut = inl (omega arith);
      none = refl;
      full = λ has. (refl, refl);
      empty = λ none. inr refl;
      closed = λ b was. was;
      above = above_same s e;
      later = λ none same. later;
    }

-- the entry is of an earlier cycle
pub closes_passed : (c : Setup) (h e : ℕ) → cycle_in (ring_slots c) e < cycle c h → Closes (ring_slots c) e (passed c h e) (cycle c h)
closes_passed c h e earlier =
    let s = ring_slots c in
    let some = some_slots c in
    let bit = safe_in_bit s e in
    let above = passing_rises c h e earlier in
    elim (cases_Bool (is_none_in s e)) [
      | inl none ↦
          let low : mark_of s < s = omega (arith, some_indices c) in
          let at : cycle_in s (packed s (cycle c h) (safe_in s e) (mark_of s)) ≡ cycle c h = cycle_in-packed s (cycle c h) (safe_in s e) (mark_of s) low bit in
          let is : is_none_in s (packed s (cycle c h) (safe_in s e) (mark_of s)) ≡ true = none_in-marked s (cycle c h) (safe_in s e) some in
          let shown : IsAbove s e (packed s (cycle c h) (safe_in s e) (mark_of s)) = rw none at above in
          rw none
          (record {
            away = λ same. omega arith;
            shut = inl (omega arith);
            none = is ∙ sym none;
            full = λ has. absurd (cc);
            empty = λ _. inl at;
            closed =
                λ b was.
                elim was [
                  | inl low ↦ inl (omega arith)
                  | inr unsafe ↦ inr (safe_in-packed s (cycle c h) (safe_in s e) (mark_of s) low bit ∙ unsafe)
                ];
            above = shown;
            later = λ _ same. let cycles : cycle_in s (packed s (cycle c h) (safe_in s e) (mark_of s)) ≡ cycle_in s e = ap (cycle_in s) same in
                absurd (omega arith);
          })
      | inr has ↦
          let low = index_below s e some has in
          let small : index_in s e < s = index_in_small s e some in
          let at : cycle_in s (packed s (cycle_in s e) 0 (index_in s e)) ≡ cycle_in s e =
          cycle_in-packed s (cycle_in s e) 0 (index_in s e) small (omega arith) in
          let is : is_none_in s (packed s (cycle_in s e) 0 (index_in s e)) ≡ false = none_in-filled s (cycle_in s e) 0 (index_in s e) low in
          let unsafe : safe_in s (packed s (cycle_in s e) 0 (index_in s e)) ≡ 0 = safe_in-packed s (cycle_in s e) 0 (index_in s e) small (omega arith) in
          let shown : IsAbove s e (packed s (cycle_in s e) 0 (index_in s e)) = rw has at above in
          rw has
          (record {
            away = λ same. omega arith;
            shut = inr unsafe;
            none = is ∙ sym has;
            full = λ _. (at, index_in-packed s (cycle_in s e) 0 (index_in s e) small);
            empty = λ none. absurd (cc);
            closed = λ b was. inr unsafe;
            above = shown;
            later = λ none same. absurd (cc);
          })
    ]

-- the mark on an entry
pub empties_marked : (c : Setup) (e : ℕ)
    → Empties (ring_slots c) e (packed (ring_slots c) (cycle_in (ring_slots c) e) (safe_in (ring_slots c) e) (mark_of (ring_slots c)))
empties_marked c e =
    let s = ring_slots c in
    let low : mark_of s < s = omega (arith, some_indices c) in
    let bit = safe_in_bit s e in
    record {
      cycle = cycle_in-packed s (cycle_in s e) (safe_in s e) (mark_of s) low bit;
      safe = safe_in-packed s (cycle_in s e) (safe_in s e) (mark_of s) low bit;
      none = none_in-marked s (cycle_in s e) (safe_in s e) (some_slots c);
      above = taking_rises s e (some_slots c);
    }

-- an index placed at a later cycle
pub fills_packed : (c : Setup) (e t i : ℕ) → is_none_in (ring_slots c) e ≡ true → cycle_in (ring_slots c) e < cycle c t → i < n_of c.order
    → Fills (ring_slots c) e (packed (ring_slots c) (cycle c t) 1 i) (cycle c t) i
fills_packed c e t i none earlier small =
    let s = ring_slots c in
    let low = below_mark c i small in
    let under : i < s = omega arith in
    record {
      none = none;
      earlier = earlier;
      cycle = cycle_in-packed s (cycle c t) 1 i under (omega arith);
      some = none_in-filled s (cycle c t) 1 i low;
      index = index_in-packed s (cycle c t) 1 i under;
    }
