-- Digits of a number, read from the front.
use Rattle.std.proofs.Common.{◌≡◌, ℕ, zero, suc, ◌+◌, ◌-◌, ◌*◌, ◌^◌, ◌<◌, ◌≤◌, Bool, true, false, ◌&&◌, List, [], ◌∷◌, ◌++◌, length, take, get_or, refl, ◌∙◌, ap, arith}
use Rattle.std.proofs.lemmas.Bool.Decides.{nat_tests}
use Rattle.std.proofs.lemmas.Int.Digits.{digits_value_more}
use Rattle.std.proofs.lemmas.List.{take_more, length-take-le}
use Rattle.std.proofs.lemmas.Str.Parse.{digits_value_short, numerals_by_value, tells_all_ascii_digits}
use Rattle.std.specs.Char.{is_ascii_digit, digit_value}
use Rattle.std.specs.Str.{all_ascii_digits}
use Rattle.std.specs.Str.Parse.{digits_value}

all_ascii_digits-append : (xs ys : List ℕ) → all_ascii_digits (xs ++ ys) ≡ (all_ascii_digits xs && all_ascii_digits ys)
all_ascii_digits-append [] ys = refl
all_ascii_digits-append (x ∷ xs) ys =
    and_on (is_ascii_digit x) (all_ascii_digits xs) (all_ascii_digits ys) (all_ascii_digits (xs ++ ys)) (all_ascii_digits-append xs ys)
  where
    and_on : (a b c d : Bool) → d ≡ (b && c) → (a && d) ≡ (a && b && c)
    and_on true b c d e = e
    and_on false b c d e = refl

-- one digit more
pub digits_more : (xs : List ℕ) (i : ℕ) → i < length xs → all_ascii_digits (take i xs) ≡ true → is_ascii_digit (get_or xs i 0) ≡ true
    → all_ascii_digits (take (i + 1) xs) ≡ true
digits_more xs i low before here =
    ap all_ascii_digits (take_more xs i 0 low) ∙ all_ascii_digits-append (take i xs) (get_or xs i 0 ∷ []) ∙ (rw (before, here) refl)

later : (a b : Bool) → b ≡ false → (a && b) ≡ false
later true b e = e
later false b e = refl

-- no digit
pub digits_end : (xs : List ℕ) (i : ℕ) → i < length xs → is_ascii_digit (get_or xs i 0) ≡ false → all_ascii_digits xs ≡ false
digits_end [] i low here = absurd (omega arith)
digits_end (x ∷ xs) zero low here = rw here refl
digits_end (x ∷ xs) (suc i) low here = later (is_ascii_digit x) (all_ascii_digits xs) (digits_end xs i (omega arith) here)

-- the value of one digit more
pub value_more : (xs : List ℕ) (i : ℕ) → i < length xs → is_ascii_digit (get_or xs i 0) ≡ true
    → digits_value 10 (take (i + 1) xs) ≡ digits_value 10 (take i xs) * 10 + (get_or xs i 0 - 48)
value_more xs i low here =
    digits_value_more 10 xs i low ∙ ap (λ d. digits_value 10 (take i xs) * 10 + d) (own (get_or xs i 0) here)
  where
    own : (byte : ℕ) → is_ascii_digit byte ≡ true → digit_value byte ≡ byte - 48
    own byte e = grind (arith, nat_tests)

-- digits with room for one more of 19
pub value_short : (xs : List ℕ) (i : ℕ) → i < length xs → length xs ≤ 19 → all_ascii_digits (take i xs) ≡ true → digits_value 10 (take i xs) < 10 ^ 18
value_short xs i low few digits =
    digits_value_short (numerals_by_value (λ ds. all_ascii_digits ds ≡ true) tells_all_ascii_digits) (take i xs) 18 digits
    (omega (arith, length-take-le i xs (omega arith)))
