-- A text of 1 to 10 digits, and what `parse` makes of it.
use Rattle.std.proofs.Common.{◌≡◌, ◌∙◌, ◌⊎◌, refl, sym, ap, inl, inr, arith, true, false, zero, suc, ℕ, ◌<◌, ◌≤◌, ◌^◌, Bool, cond, leb, ltb, List, [], ◌∷◌, length, Some, None, Result, Ok, Err}
use Rattle.std.specs.Prelude.{◌&&◌}
use Rattle.std.specs.List.{list_all}
use Rattle.std.specs.Char.{is_ascii_digit}
use Rattle.std.specs.Str.{all_ascii_digits}
use Rattle.std.specs.Result.{OkIff, result_ok}
use Rattle.std.specs.Str.Parse.{digits_value, ParsesUnsigned}
use Rattle.std.proofs.lemmas.Bool.{le-leb, lt-ltb}
use Rattle.std.proofs.lemmas.Bool.Decides.{nat_tests}
use Rattle.std.proofs.Math.Nat.{pow-le-pow_right}
use Rattle.std.proofs.lemmas.Str.Parse.{numerals_by_value, parse_digits, tells_all_ascii_digits}
use Rattle.std.proofs.lemmas.Int.Digits.{digits_value-lt}
use Rattle.scq_words.specs.Exports.{number_in}

pub all-digits : (bytes : List ℕ) → list_all is_ascii_digit bytes ≡ all_ascii_digits bytes
all-digits [] = refl
all-digits (b ∷ bs) = ap (λ rest. is_ascii_digit b && rest) (all-digits bs)

-- a text that is too long, or has something else
pub number-none : (bytes : List ℕ) (few digits : Bool) → leb (length bytes) 10 ≡ few → all_ascii_digits bytes ≡ digits → (few && digits) ≡ false
    → number_in bytes ≡ None
number-none bytes few digits is all none =
    ap (λ b. cond (ltb 0 (length bytes) && b && all_ascii_digits bytes) (Some (digits_value 10 bytes)) None) is
    ∙ ap (λ b. cond (ltb 0 (length bytes) && few && b) (Some (digits_value 10 bytes)) None) all
    ∙ at (ltb 0 (length bytes)) few digits none
  where
    at : (some few digits : Bool) → (few && digits) ≡ false → cond (some && few && digits) (Some (digits_value 10 bytes)) None ≡ None
    at true true true none = cc
    at true true false none = refl
    at true false digits none = refl
    at false few digits none = refl

pub and-false : (b : Bool) → (b && false) ≡ false
and-false true = refl
and-false false = refl

-- ten digits fit 64 bits
value-fits : (bytes : List ℕ) → all_ascii_digits bytes ≡ true → length bytes ≤ 10 → digits_value 10 bytes < 2 ^ 64
value-fits bytes all few =
    let own = numerals_by_value (λ ds. all_ascii_digits ds ≡ true) tells_all_ascii_digits in
    let below = digits_value-lt 10 bytes (own.to bytes all) in
    let most = pow-le-pow_right {n = 10} (omega arith) {i = length bytes} {j = 10} few in
    omega (arith, below, most)

none_or_some : (n : ℕ) → (n ≡ 0) ⊎ (0 < n)
none_or_some zero = inl refl
none_or_some (suc n) = inr (omega arith)

pub number-parsed : {E : Type 0} (bytes : List ℕ) (r : Result ℕ E) → ParsesUnsigned 64 10 bytes r → all_ascii_digits bytes ≡ true → length bytes ≤ 10
    → result_ok r ≡ number_in bytes
number-parsed {E = E} bytes r parses all few =
    let own = numerals_by_value (λ ds. all_ascii_digits ds ≡ true) tells_all_ascii_digits in
    at r (parse_digits own 64 bytes r parses all)
    ∙ sym (ap (λ b. cond (ltb 0 (length bytes) && b && all_ascii_digits bytes) (Some (digits_value 10 bytes)) None) (le-leb (length bytes) 10 few)
    ∙ ap (λ b. cond (ltb 0 (length bytes) && true && b) (Some (digits_value 10 bytes)) None) all)
  where
    nothing : (b : Bool) → ltb 0 (length bytes) ≡ b → length bytes ≡ 0 → None ≡ cond (b && true && true) (Some (digits_value 10 bytes)) None
    nothing true e none = absurd (grind (arith, nat_tests))
    nothing false e none = refl

    at : (r : Result ℕ E) → OkIff r ((0 < length bytes) × (digits_value 10 bytes < 2 ^ 64)) (digits_value 10 bytes)
        → result_ok r ≡ cond (ltb 0 (length bytes) && true && true) (Some (digits_value 10 bytes)) None
    at (Ok x) said = ap Some said.1 ∙ sym (ap (λ b. cond (b && true && true) (Some (digits_value 10 bytes)) None) (lt-ltb 0 (length bytes) said.0.0))
    at (Err e) said = elim (none_or_some (length bytes)) [
      | inl none ↦ nothing (ltb 0 (length bytes)) refl none
      | inr some ↦ absurd (said (some, value-fits bytes all few))
    ]
