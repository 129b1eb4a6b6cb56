-- How far the entry of a slot stands behind the first one, told from a ticket of the slot and from the slot itself. Plan: the remainder of a
-- slot is what its tickets leave modulo the slots, so remainders are apart as slots are, and rows and columns of remainders are apart as well.
use Rattle.std.proofs.Common.{◌≡◌, ℕ, ◌+◌, ◌-◌, ◌*◌, ◌/◌, ◌%◌, ◌^◌, ◌<◌, ◌≤◌, refl, sym, ◌∙◌, ap, inl, inr, arith, leb-true, leb-false, le-leb, pow_mono}
use Rattle.std.specs.Prelude.{nat_le}
use Rattle.std.specs.Int.Bits.{bit_and}
use Rattle.std.proofs.Math.Nat.{div-lt_iff_lt-mul, mod-eq_of_lt, mul-le-mul_right}
use Rattle.std.proofs.lemmas.Bool.{cases_Bool, cases_lt, lt-leb}
use Rattle.std.proofs.lemmas.Nat.{pow_pos, pow_below, div-mul-add, mod-mul-add, div-add-mod', mod_below, and_mask}
use Rattle.scq_word.specs.Exports.{slots_of, slot_of, in_columns, most_order}
use Rattle.scq_word.proofs.ColumnLemmas.{in_columns_small, in_columns_apart, columns_of}
use Rattle.scq_word.proofs.EntryLemmas.{slots_of-pow}
use Rattle.scq_word.proofs.TicketLemmas.{some_slots_of, slot_of-masked, slot_of-onto, same_slot}
use Rattle.scq_band.specs.Exports.{remainder_of, largest_lined_order, column_bits, entry_offset}

-- eight columns of an eighth of the slots, and of one at least, have room for all
slots_few : (order : ℕ) → slots_of order ≤ 8 * 2 ^ (order + 1 - 3)
slots_few order =
    elim (cases_lt 3 (order + 1)) [
      | inl high ↦ let columns = columns_of order high in omega (arith, columns)
      | inr low ↦
          let small : order + 1 ≤ 3 = omega (arith, low) in
          let few : 2 ^ (order + 1) ≤ 2 ^ 3 = pow_mono small in
          let some : 0 < 2 ^ (order + 1 - 3) = pow_pos (order + 1 - 3) in
          let slots = slots_of-pow order in
          omega (arith, few, some, slots)
    ]

-- row and column are read off the number that they make
remainder_back : (w u : ℕ) → 0 < w → u < 8 * w → in_columns w u / 8 + in_columns w u % 8 * w ≡ u
remainder_back w u some low =
    let column : u / w < 8 = (div-lt_iff_lt-mul some).1 low in
    let row : in_columns w u / 8 ≡ u % w = div-mul-add (u % w) 8 (u / w) column in
    let rest : in_columns w u % 8 ≡ u / w = mod-mul-add (u % w) 8 (u / w) column in
    let product : in_columns w u % 8 * w ≡ u / w * w = ap (λ n. n * w) rest in
    omega (arith, row, product, div-add-mod' u w)

-- the slot of a ticket tells what the ticket leaves modulo the slots
pub remainder_of-ticket : (order t : ℕ) → remainder_of order (slot_of order t) ≡ t % slots_of order
remainder_of-ticket order t =
    let w = 2 ^ (order + 1 - 3) in
    let u = t % slots_of order in
    let low : u < slots_of order = mod_below t (slots_of order) (some_slots_of order) in
    let few = slots_few order in
    ap (λ s. s / 8 + s % 8 * w) (sym (slot_of-masked order t)) ∙ remainder_back w u (pow_pos (order + 1 - 3)) (omega (arith, low, few))

remainder_small : (order s : ℕ) → s < slots_of order → remainder_of order s < slots_of order
remainder_small order s low =
    let at = slot_of-onto order s low in
    let rest : remainder_of order s ≡ at.0 % slots_of order = ap (remainder_of order) (sym at.1) ∙ remainder_of-ticket order at.0 in
    let below : at.0 % slots_of order < slots_of order = mod_below at.0 (slots_of order) (some_slots_of order) in
    omega (arith, rest, below)

remainder_apart : (order s z : ℕ) → s < slots_of order → z < slots_of order → remainder_of order s ≡ remainder_of order z → s ≡ z
remainder_apart order s z low lower same =
    let a = slot_of-onto order s low in
    let b = slot_of-onto order z lower in
    let rest : remainder_of order s ≡ a.0 % slots_of order = ap (remainder_of order) (sym a.1) ∙ remainder_of-ticket order a.0 in
    let other : remainder_of order z ≡ b.0 % slots_of order = ap (remainder_of order) (sym b.1) ∙ remainder_of-ticket order b.0 in
    sym a.1 ∙ same_slot order a.0 b.0 (sym rest ∙ same ∙ other) ∙ b.1

-- one column or eight have as many entries as there are slots
columns_fill : (order : ℕ) → (q : ℕ) × ((slots_of order ≡ q * 2 ^ column_bits order) × (q ≤ 8))
unfolding column_bits
columns_fill order =
    elim (cases_Bool (nat_le order largest_lined_order)) [
      | inl low ↦ let slots = slots_of-pow order in rw low (1, (omega (arith, slots), omega arith))
      | inr high ↦
          let columns = columns_of order (omega (arith, leb-false order largest_lined_order high)) in
          rw high (8, (sym columns, omega arith))
    ]

pub in_one_column : (order : ℕ) → order ≤ largest_lined_order → column_bits order ≡ order + 1
unfolding column_bits
in_one_column order low = rw (le-leb order largest_lined_order low) refl

pub in_eight_columns : (order : ℕ) → largest_lined_order < order → column_bits order ≡ order + 1 - 3
unfolding column_bits
in_eight_columns order high = rw (lt-leb order largest_lined_order high) refl

pub columns_few : (order : ℕ) → order ≤ most_order → 2 ^ column_bits order ≤ 2 ^ 14
unfolding column_bits
columns_few order few =
    elim (cases_Bool (nat_le order largest_lined_order)) [
      | inl low ↦
          let least = leb-true order largest_lined_order low in
          let small : order + 1 ≤ 14 = omega (arith, least) in
          rw low (pow_mono small)
      | inr high ↦ let small : order + 1 - 3 ≤ 14 = omega (arith, few) in rw high (pow_mono small)
    ]

remainder_low : (order s : ℕ) → s < slots_of order → remainder_of order s < 8 * 2 ^ column_bits order
remainder_low order s low =
    let fill = columns_fill order in
    let many : fill.0 * 2 ^ column_bits order ≤ 8 * 2 ^ column_bits order = mul-le-mul_right (2 ^ column_bits order) fill.1.1 in
    let slots = fill.1.0 in
    let small = remainder_small order s low in
    omega (arith, many, slots, small)

-- entries stand within eight columns, each for itself
pub entry_offset_low : (order s : ℕ) → s < slots_of order → entry_offset order s < 8 * 2 ^ column_bits order
unfolding entry_offset
entry_offset_low order s low = in_columns_small (2 ^ column_bits order) (remainder_of order s) (pow_pos (column_bits order)) (remainder_low order s low)

pub entry_offset_apart : (order s z : ℕ) → s < slots_of order → z < slots_of order → entry_offset order s ≡ entry_offset order z → s ≡ z
unfolding entry_offset
entry_offset_apart order s z low lower same =
    remainder_apart order s z low lower
    (in_columns_apart (2 ^ column_bits order) (remainder_of order s) (remainder_of order z) (pow_pos (column_bits order)) (remainder_low order s low) (remainder_low order z lower) same)

-- what is left modulo a multiple leaves the same
mod_twice : (t q m : ℕ) → 0 < m → t % (q * m) % m ≡ t % m
mod_twice t q m some =
    let x = t % (q * m) in
    let turns = t / (q * m) * q + x / m in
    let whole : t / (q * m) * (q * m) + x ≡ t = div-add-mod' t (q * m) in
    let part : x / m * m + x % m ≡ x = div-add-mod' x m in
    let product : turns * m ≡ t / (q * m) * (q * m) + x / m * m = grind arith in
    let sum : turns * m + x % m ≡ t = omega (arith, whole, part, product) in
    sym (ap (λ n. n % m) (sym sum) ∙ mod-mul-add turns m (x % m) (mod_below x m some))

-- row and column of what a ticket leaves tell where the entry of its slot stands
pub entry_offset-of_ticket : (order t mark row_mask bits : ℕ) → mark ≡ slots_of order - 1 → row_mask ≡ 2 ^ column_bits order - 1 → bits ≡ column_bits order
    → bit_and t row_mask * 8 + bit_and t mark / 2 ^ bits ≡ entry_offset order (slot_of order t)
unfolding entry_offset
entry_offset-of_ticket order t mark row_mask bits mark_is rows_are bits_are =
    let k = column_bits order in
    let fill = columns_fill order in
    let marks : mark ≡ 2 ^ (order + 1) - 1 = mark_is ∙ ap (λ n. n - 1) (slots_of-pow order) in
    let rest : bit_and t mark ≡ t % slots_of order = ap (bit_and t) marks ∙ and_mask t (order + 1) ∙ ap (λ n. t % n) (sym (slots_of-pow order)) in
    let twice : t % slots_of order % 2 ^ k ≡ t % 2 ^ k = ap (λ n. t % n % 2 ^ k) (fill.1.0) ∙ mod_twice t fill.0 (2 ^ k) (pow_pos k) in
    let row : bit_and t row_mask ≡ t % slots_of order % 2 ^ k = ap (bit_and t) rows_are ∙ and_mask t k ∙ sym twice in
    let column : bit_and t mark / 2 ^ bits ≡ t % slots_of order / 2 ^ k = ap (λ n. n / 2 ^ bits) rest ∙ ap (λ n. t % slots_of order / 2 ^ n) bits_are in
    rw (row, column, remainder_of-ticket order t) refl

shifted : (k : ℕ) → k < 32 → 1 * 2 ^ k % 4294967296 ≡ 2 ^ k
shifted k few =
    let low : 2 ^ k < 2 ^ 32 = pow_below k 32 few in
    let one : 1 * 2 ^ k ≡ 2 ^ k = omega arith in
    ap (λ n. n % 4294967296) one ∙ mod-eq_of_lt low

-- and so do those of a slot's remainder, as they are counted in 32 bits
pub entry_offset_by : (order s behind k row column : ℕ) → behind < 32 → k < 32 → behind ≡ order + 1 - 3 → k ≡ column_bits order
    → row ≡ (s / 8 + s % 8 * (1 * 2 ^ behind % 4294967296)) % (1 * 2 ^ k % 4294967296)
    → column ≡ (s / 8 + s % 8 * (1 * 2 ^ behind % 4294967296)) / (1 * 2 ^ k % 4294967296) → row * 8 + column ≡ entry_offset order s
unfolding entry_offset
entry_offset_by order s behind k row column few low behind_is k_is row_is column_is =
    rw (row_is, column_is, shifted behind few, shifted k low, behind_is, k_is) refl
