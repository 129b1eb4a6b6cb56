-- The words that the table's code packs are those of the table.
use Rattle.std.proofs.Common.{◌≡◌, ℕ, ◌+◌, ◌*◌, ◌/◌, ◌^◌, ◌<◌, ◌≤◌, true, false, refl, sym, ◌∙◌, ap, inl, inr, arith, Option, Some, None}
use Rattle.std.specs.Prelude.{◌==◌}
use Rattle.std.proofs.lemmas.Nat.{le-div}
use Rattle.std.proofs.lemmas.Bool.{cases_Bool}
use Rattle.std.proofs.lemmas.Grind.{common_steps}
use Rattle.scq_word.specs.declared.setup.Setup.{Setup}
use Rattle.scq_word.specs.declared.entry.Entry.{Entry}
use Rattle.scq_word.specs.Exports.{n_of, slots_of, index_in, safe_in, is_none_in, safe_bit, word_of, index_unless_mark, entry_in}
use Rattle.scq_word.proofs.WordLemmas.{safe_in_bit}
use Rattle.scq_word.proofs.TicketLemmas.{ticket_parts}
use Rattle.scq_core.specs.Exports.{ring_slots, cycle, passed}
use Rattle.scq_core.proofs.Entries.{some_indices}

-- the cycle of a ticket below the limit can be packed
pub cycle_fits : (c : Setup) (t : ℕ) → t < c.limit → cycle c t < 2 ^ 62 / n_of c.order
cycle_fits c t below_limit =
    let range = c.limit_in_range in
    let some = c.order_in_range in
    let turns : (cycle c t + 1) * n_of c.order ≤ 2 ^ 62 = omega (arith, ticket_parts (ring_slots c) t) in
    let fits : cycle c t + 1 ≤ 2 ^ 62 / n_of c.order = le-div (cycle c t + 1) (2 ^ 62) (n_of c.order) (omega (arith, some_indices c)) turns in
    omega arith

bit_read : (s : ℕ) → s < 2 → safe_bit (s == 1) ≡ s
bit_read s small = grind (arith, common_steps)

-- an index was read off a word exactly where one stands in it
pub index_of-none : (order e : ℕ) → index_unless_mark order e ≡ None → is_none_in (slots_of order) e ≡ true
index_of-none order e none =
    elim (cases_Bool (is_none_in (slots_of order) e)) [
      | inl is ↦ is
      | inr has ↦ let never : Some (index_in (slots_of order) e) ≡ None = rw has at none in absurd cc
    ]

pub index_of-some : (order e i : ℕ) → index_unless_mark order e ≡ Some i → (is_none_in (slots_of order) e ≡ false) × (index_in (slots_of order) e ≡ i)
index_of-some order e i some =
    elim (cases_Bool (is_none_in (slots_of order) e)) [
      | inl is ↦ let never : ◌≡◌ {A = Option ℕ} None (Some i) = rw is at some in absurd cc
      | inr has ↦ let same : Some (index_in (slots_of order) e) ≡ Some i = rw has at some in (has, cc)
    ]

-- an entry without an index, moved to the cycle of a ticket
pub passed_moved : (c : Setup) (h e cyc : ℕ) (entry left : Entry) → entry ≡ entry_in c.order e → entry.index ≡ None → cyc ≡ cycle c h
    → left ≡ record { cycle = cyc; safe = entry.safe; index = entry.index } → word_of c.order left ≡ passed c h e
passed_moved c h e cyc entry left read none cyc_is left_is =
    let is : index_unless_mark c.order e ≡ None = sym (ap (λ (x : Entry). x.index) read) ∙ none in
    rw (left_is, none, ap (λ (x : Entry). x.safe) read, cyc_is, index_of-none c.order e is, bit_read (safe_in (ring_slots c) e) (safe_in_bit (ring_slots c) e))
    refl

-- one with an index, marked unsafe
pub passed_marked : (c : Setup) (h e i : ℕ) (entry left : Entry) → entry ≡ entry_in c.order e → entry.index ≡ Some i
    → left ≡ record { cycle = entry.cycle; safe = false; index = entry.index } → word_of c.order left ≡ passed c h e
passed_marked c h e i entry left read some left_is =
    let is : index_unless_mark c.order e ≡ Some i = sym (ap (λ (x : Entry). x.index) read) ∙ some in
    let has = index_of-some c.order e i is in
    rw (left_is, some, ap (λ (x : Entry). x.cycle) read, has.0, has.1) refl
