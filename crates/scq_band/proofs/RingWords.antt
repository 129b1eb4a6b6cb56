-- What a ring's code makes of an entry's bits, and of a ticket's.
use Rattle.std.proofs.Common.{◌≡◌, ℕ, ◌+◌, ◌-◌, ◌*◌, ◌/◌, ◌%◌, ◌^◌, ◌<◌, ◌≤◌, ◌==◌, ◌≢◌, refl, sym, ◌∙◌, ap, subst, inl, inr, arith, eq-eqb}
use Rattle.std.specs.Int.Bits.{bit_and, bit_xor, xor_self, xor_add_and}
use Rattle.std.proofs.lemmas.Nat.{div-add-mod', mod_below, xor_shr, and_le_l, and_le_r}
use Rattle.std.proofs.lemmas.Bool.{cases_lt}
use Rattle.std.proofs.Math.Nat.{mul-le-mul_right, div-div-eq-div-mul, div-eq_of_lt}
use Rattle.scq_word.specs.declared.setup.Setup.{Setup}
use Rattle.scq_word.specs.Exports.{slots_of, cycle_of, mark_of, packed, cycle_in, safe_in, index_in}
use Rattle.scq_word.proofs.WordLemmas.{cycle_in-packed, safe_in-packed, index_in-packed}
use Rattle.scq_word.proofs.EntryLemmas.{n_of_some, slots_of-pow, masked}
use Rattle.scq_core.specs.Exports.{ring_slots, cycle}
use Rattle.scq_band.specs.Exports.{IsFilled, IsPlainlyVacant}

-- a word whose safe bit and index bits are set is packed of them
all_set : (m x : ℕ) → 0 < m → x % (2 * m) ≡ 2 * m - 1 → x ≡ packed m (x / (2 * m)) 1 (m - 1)
unfolding packed
all_set m x some rest = let parts = div-add-mod' x (2 * m) in omega (arith, parts, rest, some)

-- of two words, of which the higher has the safe bit, and the lower that and all bits of the index, the lower is of an earlier cycle
earlier_of : (m q cyc i x : ℕ) → i < m → x ≡ packed m q 1 (m - 1) → x < packed m cyc 1 i → q < cyc
unfolding packed
earlier_of m q cyc i x small is low =
    elim (cases_lt q cyc) [
      | inl below ↦ below
      | inr above ↦
          let turns : cyc * (2 * m) ≤ q * (2 * m) = mul-le-mul_right (2 * m) (omega (arith, above)) in
          absurd (omega (arith, turns, small, is, low))
    ]

-- the bits of an index, and those with the safe bit
pub low_bits : (c : Setup) (x mark : ℕ) → mark ≡ mark_of (ring_slots c) → bit_and x mark ≡ x % ring_slots c
low_bits c x mark is =
    let some = n_of_some c.order in
    let pow = slots_of-pow c.order in
    masked c.order (c.order + 1) mark x refl (omega (arith, is, pow, some))

safe_bits : (c : Setup) (x mark : ℕ) → mark ≡ mark_of (ring_slots c) → bit_and x (2 * mark + 1) ≡ x % (2 * ring_slots c)
safe_bits c x mark is =
    let o = c.order in
    let some = n_of_some o in
    let twice : slots_of (o + 1) ≡ 2 * ring_slots c = ap (λ (k : ℕ). 2 * k) (sym (slots_of-pow o)) in
    let pow = slots_of-pow (o + 1) in
    let bits : 2 * mark + 1 ≡ 2 ^ (o + 1 + 1) - 1 = omega (arith, is, twice, pow, some) in
    subst (λ (k : ℕ). bit_and x (2 * mark + 1) ≡ x % k) twice (masked (o + 1) (o + 1 + 1) (2 * mark + 1) x refl bits)

-- such a word of an earlier cycle is plainly vacant
vacant_of : (c : Setup) (t q x : ℕ) → x ≡ packed (ring_slots c) q 1 (ring_slots c - 1) → q < cycle c t → IsPlainlyVacant c t x
vacant_of c t q x is earlier =
    let m = ring_slots c in
    let some = n_of_some c.order in
    let fits : m - 1 < m = omega (arith, some) in
    record {
      earlier = subst (λ (k : ℕ). k < cycle c t) (sym (ap (cycle_in m) is ∙ cycle_in-packed m q 1 (m - 1) fits (omega arith))) earlier;
      none = ap (λ (k : ℕ). k == mark_of m) (ap (index_in m) is ∙ index_in-packed m q 1 (m - 1) fits) ∙ eq-eqb (mark_of m) (mark_of m) refl;
      safe = ap (safe_in m) is ∙ safe_in-packed m q 1 (m - 1) fits (omega arith);
    }

pub plainly_vacant : (c : Setup) (t x new mark : ℕ) → mark ≡ mark_of (ring_slots c) → IsFilled c t new → x < new → bit_and x (2 * mark + 1) ≡ 2 * mark + 1
    → IsPlainlyVacant c t x
plainly_vacant c t x new mark mark_is filled low all =
    let m = ring_slots c in
    let some = n_of_some c.order in
    let small = filled.small in
    let bits = safe_bits c x mark mark_is in
    let q = x / (2 * m) in
    let is : x ≡ packed m q 1 (m - 1) = all_set m x (omega (arith, some)) (omega (arith, bits, all, mark_is, some)) in
    vacant_of c t q x is (earlier_of m q (cycle c t) filled.index x (omega (arith, small)) is (subst (λ (k : ℕ). x < k) filled.is low))

-- twice a ticket's round is the round of the entries of its cycle
rounds : (c : Setup) (t mark : ℕ) → mark ≡ mark_of (ring_slots c) → 2 * (t - bit_and t mark) ≡ cycle c t * (2 * ring_slots c)
unfolding cycle_of
rounds c t mark is =
    let m = ring_slots c in
    let parts = div-add-mod' t m in
    let low = low_bits c t mark is in
    let turn : t - bit_and t mark ≡ t / m * m = omega (arith, parts, low) in
    let double : 2 * (t / m * m) ≡ t / m * (2 * m) = grind arith in
    ap (λ (k : ℕ). 2 * k) turn ∙ double

pub filled_is : (c : Setup) (t i mark : ℕ) → mark ≡ mark_of (ring_slots c) → 2 * (t - bit_and t mark) + (mark + 1) + i ≡ packed (ring_slots c) (cycle c t) 1 i
unfolding packed
filled_is c t i mark is =
    let some = n_of_some c.order in
    let turn = rounds c t mark is in
    omega (arith, turn, is, some)

-- the guess is of the cycle before a ticket's, safe, and has no index
pub guess_is : (c : Setup) (t mark : ℕ) → mark ≡ mark_of (ring_slots c) → mark < t → IsPlainlyVacant c t (2 * (t - bit_and t mark) - 1)
unfolding cycle_of packed
guess_is c t mark mark_is later =
    let m = ring_slots c in
    let some = n_of_some c.order in
    let parts : t / m * m + t % m ≡ t = div-add-mod' t m in
    let low = mod_below t m (omega (arith, some)) in
    let turn = rounds c t mark mark_is in
    let q = t / m - 1 in
    let first : 0 < t / m =
    elim (cases_lt 0 (t / m)) [
      | inl above ↦ above
      | inr none ↦
          let zero : t / m ≡ 0 = omega (arith, none) in
          let product : t / m * m ≡ 0 * m = ap (λ (k : ℕ). k * m) zero in
          absurd (omega (arith, product, parts, low, later, mark_is, some))
    ] in
    let next : t / m ≡ q + 1 = omega (arith, first) in
    let product : t / m * (2 * m) ≡ q * (2 * m) + 2 * m = ap (λ (k : ℕ). k * (2 * m)) next ∙ grind arith in
    let is : 2 * (t - bit_and t mark) - 1 ≡ packed m q 1 (m - 1) = omega (arith, turn, product, some) in
    vacant_of c t q (2 * (t - bit_and t mark) - 1) is (omega (arith, next))

-- the bits above those of a slot in a ticket, and above those of an index and the safe bit in an entry
high_bits : (c : Setup) (x t : ℕ) → bit_xor (x / 2) t / ring_slots c ≡ bit_xor (cycle_in (ring_slots c) x) (cycle c t)
unfolding cycle_in cycle_of
high_bits c x t =
    let m = ring_slots c in
    let swap : 2 * m ≡ m * 2 = omega arith in
    let round : x / 2 / m ≡ x / m / 2 = div-div-eq-div-mul x 2 m ∙ ap (λ (k : ℕ). x / k) swap ∙ sym (div-div-eq-div-mul x m 2) in
    subst (λ (k : ℕ). bit_xor (x / 2) t / k ≡ bit_xor (x / 2 / k) (t / k)) (sym (slots_of-pow c.order)) (xor_shr (x / 2) t (c.order + 1))
    ∙ ap (λ (k : ℕ). bit_xor k (t / m)) round

pub of_cycle : (c : Setup) (x t mark : ℕ) → mark ≡ mark_of (ring_slots c) → bit_xor (x / 2) t ≤ mark → cycle_in (ring_slots c) x ≡ cycle c t
of_cycle c x t mark is low =
    let some = n_of_some c.order in
    let a = cycle_in (ring_slots c) x in
    let b = cycle c t in
    let none : bit_xor a b ≡ 0 = sym (high_bits c x t) ∙ div-eq_of_lt (omega (arith, low, is, some)) in
    omega (arith, none, xor_add_and a b, and_le_l a b, and_le_r a b)

pub not_of_cycle : (c : Setup) (x t mark : ℕ) → mark ≡ mark_of (ring_slots c) → mark < bit_xor (x / 2) t → cycle_in (ring_slots c) x ≢ cycle c t
not_of_cycle c x t mark is high same =
    let some = n_of_some c.order in
    let m = ring_slots c in
    let y = bit_xor (x / 2) t in
    let none : y / m ≡ 0 = high_bits c x t ∙ ap (λ (k : ℕ). bit_xor k (cycle c t)) same ∙ xor_self (cycle c t) in
    let parts : y / m * m + y % m ≡ y = div-add-mod' y m in
    let first : y / m * m ≡ 0 * m = ap (λ (k : ℕ). k * m) none in
    let rest = mod_below y m (omega (arith, some)) in
    omega (arith, high, is, some, parts, first, rest)
