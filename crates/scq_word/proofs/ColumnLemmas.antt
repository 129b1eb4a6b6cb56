-- Laying the numbers below 8w out in eight columns maps them one-to-one onto themselves.
use Rattle.std.proofs.Common.{◌≡◌, ℕ, ◌+◌, ◌-◌, ◌*◌, ◌/◌, ◌%◌, ◌^◌, ◌<◌, sym, ◌∙◌, ap, arith}
use Rattle.std.proofs.Math.Nat.{div-lt_iff_lt-mul}
use Rattle.std.proofs.lemmas.Nat.{pow-add, div-add-mod', mod_below}
use Rattle.scq_word.specs.Exports.{slots_of, in_columns}
use Rattle.scq_word.proofs.EntryLemmas.{slots_of-pow}

-- the column is one of eight
column_small : (w s : ℕ) → 0 < w → s < 8 * w → s / w < 8
column_small w s some low = (div-lt_iff_lt-mul some).1 low

pub in_columns_small : (w s : ℕ) → 0 < w → s < 8 * w → in_columns w s < 8 * w
in_columns_small w s some low = omega (arith, column_small w s some low, mod_below s w some)

-- column and row are read off again
pub in_columns_apart : (w s t : ℕ) → 0 < w → s < 8 * w → t < 8 * w → in_columns w s ≡ in_columns w t → s ≡ t
in_columns_apart w s t some low lower same =
    let a = column_small w s some low in
    let b = column_small w t some lower in
    let column : s / w ≡ t / w = omega arith in
    let row : s % w ≡ t % w = omega arith in
    sym (div-add-mod' s w) ∙ rw (column, row) (div-add-mod' t w)

-- a ring of at least 16 slots has eight columns
pub columns_of : (order : ℕ) → 3 < order + 1 → 8 * 2 ^ (order + 1 - 3) ≡ slots_of order
columns_of order high =
    let r : order + 1 - 3 + 3 ≡ order + 1 = omega arith in
    let parts : 2 ^ (order + 1 - 3 + 3) ≡ 2 ^ (order + 1 - 3) * 2 ^ 3 = pow-add 2 (order + 1 - 3) 3 in
    let all : 2 ^ (order + 1) ≡ 2 ^ (order + 1 - 3) * 2 ^ 3 = sym (ap (λ (k : ℕ). 2 ^ k) r) ∙ parts in
    omega (arith, slots_of-pow order)

-- a ring with fewer has one column
pub in_one_column : (s : ℕ) → in_columns 1 s ≡ s
in_one_column s = omega (arith, mod_below s 1 (omega arith))
