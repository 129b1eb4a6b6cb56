-- An entry and its word say the same: what is packed is read again, and the other way round.
use Rattle.std.proofs.Common.{◌≡◌, ℕ, ◌+◌, ◌*◌, ◌/◌, ◌%◌, ◌^◌, ◌<◌, ◌≤◌, Bool, true, false, refl, sym, ◌∙◌, ap, inl, inr, ◌⊎◌, arith, eq-eqb, Option, Some, None}
use Rattle.std.specs.Prelude.{◌-◌, ◌==◌, cond}
use Rattle.std.specs.Option.{ForSome}
use Rattle.std.specs.Int.Bits.{bit_or, bit_and}
use Rattle.std.proofs.Math.Nat.{mul-le-mul_right}
use Rattle.std.proofs.lemmas.Bool.{ne_eqb}
use Rattle.std.proofs.lemmas.Bool.Decides.{eqb_tells}
use Rattle.std.proofs.lemmas.Nat.{pow_pos, pow-add, shl-shr, shr-shr, shr_below, div-add-mod', and_mask}
use Rattle.std.proofs.lemmas.Grind.{common_steps}
use Rattle.scq_word.specs.declared.entry.Entry.{Entry}
use Rattle.scq_word.specs.Exports.{n_of, slots_of, mark_of, packed, index_in, safe_in, cycle_in, rank_in, safe_bit, index_bits, word_of, entry_in}
use Rattle.scq_word.specs.Exports.{HasOwnIndex, IsIndexOrMark, rank_of, rank_within}
use Rattle.scq_word.proofs.WordLemmas.{bit_or-mark, index_in-packed, safe_in-packed, cycle_in-packed, packed-parts, safe_in_bit}

-- there is at least one index
pub n_of_some : (order : ℕ) → 0 < n_of order
n_of_some order = pow_pos order

-- the number of slots is a power of two
pub slots_of-pow : (order : ℕ) → slots_of order ≡ 2 ^ (order + 1)
slots_of-pow order = sym (pow-add 2 order 1 ∙ grind arith)

pub safe_small : (b : Bool) → safe_bit b < 2
safe_small true = omega arith
safe_small false = omega arith

bits_small : (order : ℕ) (i : Option ℕ) → ForSome i (λ index. index < n_of order) → index_bits order i < slots_of order
bits_small order None own = let some = n_of_some order in omega arith
bits_small order (Some i) own = let small = own i refl in omega arith

-- the bits of an index fit below the safe bit
pub index_bits_small : (order : ℕ) (e : Entry) → HasOwnIndex order e → index_bits order e.index < slots_of order
index_bits_small order e own = bits_small order e.index own

pub cycle_in-word_of : (order : ℕ) (e : Entry) → HasOwnIndex order e → cycle_in (slots_of order) (word_of order e) ≡ e.cycle
cycle_in-word_of order e own =
    cycle_in-packed (slots_of order) e.cycle (safe_bit e.safe) (index_bits order e.index) (index_bits_small order e own) (safe_small e.safe)

pub safe_in-word_of : (order : ℕ) (e : Entry) → HasOwnIndex order e → safe_in (slots_of order) (word_of order e) ≡ safe_bit e.safe
safe_in-word_of order e own =
    safe_in-packed (slots_of order) e.cycle (safe_bit e.safe) (index_bits order e.index) (index_bits_small order e own) (safe_small e.safe)

pub index_in-word_of : (order : ℕ) (e : Entry) → HasOwnIndex order e → index_in (slots_of order) (word_of order e) ≡ index_bits order e.index
index_in-word_of order e own =
    index_in-packed (slots_of order) e.cycle (safe_bit e.safe) (index_bits order e.index) (index_bits_small order e own)

safe_read : (b : Bool) → (safe_bit b == 1) ≡ b
safe_read true = refl
safe_read false = refl

index_read : (order : ℕ) (i : Option ℕ) → ForSome i (λ index. index < n_of order)
    → (cond (index_bits order i == mark_of (slots_of order)) None (Some (index_bits order i))) ≡ i
index_read order None own = rw (eq-eqb (mark_of (slots_of order)) (mark_of (slots_of order)) refl) refl
index_read order (Some i) own =
    let small = own i refl in
    rw (ne_eqb i (mark_of (slots_of order)) (λ same. omega arith)) refl

same_entry : (a b : Entry) → a.cycle ≡ b.cycle → a.safe ≡ b.safe → a.index ≡ b.index → a ≡ b
same_entry a b cycle safe index =
    let made : ℕ → Bool → Option ℕ → Entry = λ c s i. record { cycle = c; safe = s; index = i } in
    ap (λ (c : ℕ). made c a.safe a.index) cycle ∙ ap (λ (s : Bool). made b.cycle s a.index) safe ∙ ap (λ (i : Option ℕ). made b.cycle b.safe i) index

-- what was packed is read again
pub entry_in-word_of : (order : ℕ) (e : Entry) → HasOwnIndex order e → entry_in order (word_of order e) ≡ e
entry_in-word_of order e own =
    same_entry (entry_in order (word_of order e)) e
    (cycle_in-word_of order e own)
    (rw (safe_in-word_of order e own) (safe_read e.safe))
    (rw (index_in-word_of order e own) (index_read order e.index own))

bit_read : (s : ℕ) → s < 2 → safe_bit (s == 1) ≡ s
bit_read s small = grind (arith, common_steps)

bits_read : (order i : ℕ) → index_bits order (cond (i == mark_of (slots_of order)) None (Some i)) ≡ i
bits_read order i =
    elim (eqb_tells i (mark_of (slots_of order))) [
      | inl is ↦ rw is.0 (sym is.1)
      | inr other ↦ rw other.0 refl
    ]

-- and what was read is packed again
pub word_of-entry_in : (order w : ℕ) → word_of order (entry_in order w) ≡ w
word_of-entry_in order w =
    rw (bit_read (safe_in (slots_of order) w) (safe_in_bit (slots_of order) w), bits_read order (index_in (slots_of order) w))
    (packed-parts (slots_of order) w)

own_read : (order i j : ℕ) → (i < n_of order) ⊎ (i ≡ mark_of (slots_of order))
    → cond (i == mark_of (slots_of order)) None (Some i) ≡ Some j → j < n_of order
own_read order i j bits is =
    elim (eqb_tells i (mark_of (slots_of order))) [
      | inl mark ↦ let never : None ≡ Some j = rw mark.0 at is in absurd cc
      | inr other ↦
          let given : Some i ≡ Some j = rw other.0 at is in
          let same : i ≡ j = cc in
          elim bits [ inl small ↦ omega arith | inr mark ↦ absurd (other.1 mark) ]
    ]

-- an index that was read is one of the ring's
pub entry_of_own : (order w : ℕ) → IsIndexOrMark order w → HasOwnIndex order (entry_in order w)
entry_of_own order w bits i is = own_read order (index_in (slots_of order) w) i bits is

-- a packed word fits 64 bits
pub packed_fits : (order cycle : ℕ) → cycle < 2 ^ 62 / n_of order → (cycle + 1) * (2 * slots_of order) ≤ 2 ^ 64
packed_fits order cycle low =
    let turns : (cycle + 1) * n_of order ≤ 2 ^ 62 / n_of order * n_of order = mul-le-mul_right (n_of order) (omega arith) in
    omega (arith, div-add-mod' (2 ^ 62) (n_of order))

-- the sum that makes a word
pub packed_sum : (order : ℕ) (e : Entry) (slots safe bits : ℕ) → slots ≡ slots_of order → safe ≡ safe_bit e.safe
    → bits ≡ index_bits order e.index → e.cycle * (2 * slots) + safe * slots + bits ≡ word_of order e
unfolding packed
packed_sum order e slots safe bits slots_is safe_is bits_is = rw (slots_is, safe_is, bits_is) refl

-- and the word is below the next turn's
pub word_of_small : (order : ℕ) (e : Entry) → e.cycle < 2 ^ 62 / n_of order → HasOwnIndex order e → word_of order e < 2 ^ 64
unfolding packed
word_of_small order e low own =
    let room : (e.cycle + 1) * (2 * slots_of order) ≤ 2 ^ 64 = packed_fits order e.cycle low in
    let bits : index_bits order e.index < slots_of order = index_bits_small order e own in
    let half : safe_bit e.safe * slots_of order ≤ 1 * slots_of order = mul-le-mul_right (slots_of order) (let bit = safe_small e.safe in omega arith) in
    omega arith

-- a word of 64 bits has a cycle that can be packed
pub cycle_in_fits : (order over w : ℕ) → over + order ≡ 62 → w < 2 ^ 64 → cycle_in (slots_of order) w < 2 ^ 62 / n_of order
unfolding cycle_in
cycle_in_fits order over w sum small =
    let top : 2 ^ 62 ≡ 2 ^ over * 2 ^ order = ap (λ (k : ℕ). 2 ^ k) (sym sum) ∙ pow-add 2 over order in
    let bits : over + (order + 1 + 1) ≡ 64 = omega arith in
    let all : w < 2 ^ (over + (order + 1 + 1)) = rw bits small in
    rw (top, shl-shr (2 ^ over) order, slots_of-pow order, shr-shr w (order + 1) 1) (shr_below w over (order + 1 + 1) all)

rank_read : (order : ℕ) (i : Option ℕ) (s : Bool) → ForSome i (λ index. index < n_of order)
    → cond (index_bits order i == mark_of (slots_of order)) 2 (cond (safe_bit s == 1) 0 1) ≡ rank_within i s
rank_read order None s own = rw (eq-eqb (mark_of (slots_of order)) (mark_of (slots_of order)) refl) refl
rank_read order (Some i) true own =
    let small = own i refl in
    rw (ne_eqb i (mark_of (slots_of order)) (λ same. omega arith)) refl
rank_read order (Some i) false own =
    let small = own i refl in
    rw (ne_eqb i (mark_of (slots_of order)) (λ same. omega arith)) refl

-- the rank of a word is that of its entry
pub rank_in-word_of : (order : ℕ) (e : Entry) → HasOwnIndex order e → rank_in (slots_of order) (word_of order e) ≡ rank_of e
unfolding rank_in
rank_in-word_of order e own =
    rw (cycle_in-word_of order e own, index_in-word_of order e own, safe_in-word_of order e own)
    (ap (λ (x : ℕ). 3 * e.cycle + x) (rank_read order e.index e.safe own))

-- a fetch_or of the mark consumes the entry of any ring
pub bit_or-mark_of : (order w : ℕ)
    → bit_or w (mark_of (slots_of order)) ≡ packed (slots_of order) (cycle_in (slots_of order) w) (safe_in (slots_of order) w) (mark_of (slots_of order))
bit_or-mark_of order w = rw (slots_of-pow order) (bit_or-mark (order + 1) w)

-- what a shape keeps of its order: one more than the mark is the number of slots; a shift by the bits divides by it, and the mark masks the rest
pub mark_slots : (order bits mark : ℕ) → bits ≡ order + 1 → mark ≡ 2 ^ bits - 1 → mark + 1 ≡ slots_of order
mark_slots order bits mark bits_are mark_is =
    let some : 0 < 2 ^ (order + 1) = pow_pos (order + 1) in
    let pow = slots_of-pow order in
    rw (mark_is, bits_are) (omega arith)

pub shifted : (order bits w : ℕ) → bits ≡ order + 1 → w / 2 ^ bits ≡ w / slots_of order
shifted order bits w bits_are = rw (bits_are, slots_of-pow order) refl

pub masked : (order bits mark w : ℕ) → bits ≡ order + 1 → mark ≡ 2 ^ bits - 1 → bit_and w mark ≡ w % slots_of order
masked order bits mark w bits_are mark_is = rw (mark_is, bits_are, slots_of-pow order) (and_mask w (order + 1))

-- what is read by them is the entry of the word
pub read_masked : (order w above low : ℕ) (i : Option ℕ) → above ≡ w / slots_of order → low ≡ w % slots_of order
    → i ≡ cond (low == mark_of (slots_of order)) None (Some low)
    → (let read : Entry = record { cycle = above / 2; safe = above % 2 == 1; index = i } in read) ≡ entry_in order w
unfolding cycle_in safe_in index_in
read_masked order w above low i above_is low_is index_is =
    same_entry (record { cycle = above / 2; safe = above % 2 == 1; index = i }) (entry_in order w)
    (rw above_is refl) (rw above_is refl) (index_is ∙ rw low_is refl)
