-- What is packed is read again, and the other way round; what a write does to the rank.
use Rattle.std.proofs.Common.{◌≡◌, ℕ, ◌+◌, ◌-◌, ◌*◌, ◌/◌, ◌%◌, ◌^◌, ◌<◌, ◌≤◌, true, false, refl, sym, ◌∙◌, arith, eq-eqb}
use Rattle.std.specs.Int.Bits.{bit_or, or_zero_r}
use Rattle.std.proofs.lemmas.Nat.{div-mul-add, mod-mul-add, div-add-mod', mod_below, pow_pos, or_block, le_or_r, or_lt}
use Rattle.std.proofs.lemmas.Grind.{common_steps}
use Rattle.scq_word.specs.Exports.{packed, index_in, safe_in, cycle_in, is_none_in, rank_in}

-- two fields above the index, as one number of two digits
packed_row : (m c s i : ℕ) → packed m c s i ≡ (c * 2 + s) * m + i
unfolding packed
packed_row m c s i = grind arith

pub index_in-packed : (m c s i : ℕ) → i < m → index_in m (packed m c s i) ≡ i
unfolding index_in
index_in-packed m c s i small = rw (packed_row m c s i) (mod-mul-add (c * 2 + s) m i small)

pub safe_in-packed : (m c s i : ℕ) → i < m → s < 2 → safe_in m (packed m c s i) ≡ s
unfolding safe_in
safe_in-packed m c s i small bit =
    rw (packed_row m c s i, div-mul-add (c * 2 + s) m i small) (mod-mul-add c 2 s bit)

pub cycle_in-packed : (m c s i : ℕ) → i < m → s < 2 → cycle_in m (packed m c s i) ≡ c
unfolding cycle_in
cycle_in-packed m c s i small bit =
    rw (packed_row m c s i, div-mul-add (c * 2 + s) m i small) (div-mul-add c 2 s bit)

-- a word is the pack of its parts
pub packed-parts : (m w : ℕ) → packed m (cycle_in m w) (safe_in m w) (index_in m w) ≡ w
unfolding index_in safe_in cycle_in
packed-parts m w =
    packed_row m (w / m / 2) (w / m % 2) (w % m) ∙ rw (div-add-mod' (w / m) 2) (div-add-mod' w m)

pub safe_in_bit : (m w : ℕ) → safe_in m w < 2
unfolding safe_in
safe_in_bit m w = mod_below (w / m) 2 (omega arith)

pub index_in_small : (m w : ℕ) → 0 < m → index_in m w < m
unfolding index_in
index_in_small m w some = mod_below w m some

-- the rank by the three cases
pub rank_in-empty : (m w : ℕ) → is_none_in m w ≡ true → rank_in m w ≡ 3 * cycle_in m w + 2
unfolding rank_in
rank_in-empty m w none = rw none refl

pub rank_in-safe : (m w : ℕ) → is_none_in m w ≡ false → safe_in m w ≡ 1 → rank_in m w ≡ 3 * cycle_in m w
unfolding rank_in
rank_in-safe m w some safe = rw (some, eq-eqb (safe_in m w) 1 safe) (omega arith)

pub rank_in-unsafe : (m w : ℕ) → is_none_in m w ≡ false → safe_in m w ≡ 0 → rank_in m w ≡ 3 * cycle_in m w + 1
unfolding rank_in
rank_in-unsafe m w some unsafe = rw (some, unsafe) refl

-- the rank lies in the three numbers of its cycle
pub rank_in_range : (m w : ℕ) → (3 * cycle_in m w ≤ rank_in m w) × (rank_in m w ≤ 3 * cycle_in m w + 2)
unfolding rank_in
rank_in_range m w = grind (arith, common_steps)

-- all the bits of an index, over an index
or_index : (k i : ℕ) → i < 2 ^ k → bit_or i (2 ^ k - 1) ≡ 2 ^ k - 1
or_index k i small =
    let some : 0 < 2 ^ k = pow_pos k in
    let mark : 2 ^ k - 1 < 2 ^ k = omega arith in
    let low : 2 ^ k - 1 ≤ bit_or i (2 ^ k - 1) = le_or_r i (2 ^ k - 1) in
    let high : bit_or i (2 ^ k - 1) < 2 ^ k = or_lt k i (2 ^ k - 1) small mark in
    omega arith

-- a fetch_or of the mark takes the index out of the word, and leaves its cycle and its safe bit.
-- Plan: the word is its two high fields and its index; the mark is no bit of the fields and all bits of the index.
pub bit_or-mark : (k w : ℕ) → bit_or w (2 ^ k - 1) ≡ packed (2 ^ k) (cycle_in (2 ^ k) w) (safe_in (2 ^ k) w) (2 ^ k - 1)
unfolding safe_in cycle_in
bit_or-mark k w =
    let some : 0 < 2 ^ k = pow_pos k in
    let mark : 2 ^ k - 1 < 2 ^ k = omega arith in
    let small : w % 2 ^ k < 2 ^ k = mod_below w (2 ^ k) some in
    let parts : w / 2 ^ k * 2 ^ k + w % 2 ^ k ≡ w = div-add-mod' w (2 ^ k) in
    let alone : 0 * 2 ^ k + (2 ^ k - 1) ≡ 2 ^ k - 1 = grind arith in
    let apart = or_block k (w / 2 ^ k) 0 (w % 2 ^ k) (2 ^ k - 1) small mark in
    let fields : bit_or w (2 ^ k - 1) ≡ w / 2 ^ k * 2 ^ k + (2 ^ k - 1) = rw (parts, alone, or_zero_r (w / 2 ^ k), or_index k (w % 2 ^ k) small) at apart in
    fields ∙ sym (packed_row (2 ^ k) (w / 2 ^ k / 2) (w / 2 ^ k % 2) (2 ^ k - 1) ∙ rw (div-add-mod' (w / 2 ^ k) 2) refl)
