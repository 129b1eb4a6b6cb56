-- The sum of tokens, read byte by byte.
-- Plan: `run` says what a loop over the bytes comes to, and `plus` what tokens come to after an
-- earlier sum. By induction on the bytes, `run` with a token begun is `plus` with that token put
-- before the first part of the rest.
use Rattle.std.proofs.Common.{◌≡◌, ℕ, ◌+◌, ◌-◌, ◌*◌, ◌^◌, ◌<◌, ◌≤◌, Bool, true, false, ◌&&◌, cond, ltb, leb, eqb, List, [], ◌∷◌, ◌++◌, length, arith, refl, sym, ap, ◌∙◌, Option, Some, None, inl, inr, ◌⊎◌, length-append, append_assoc, lit<, lit≤, zero-add}
use Rattle.std.proofs.lemmas.List.{append-nil}
use Rattle.std.proofs.lemmas.Bool.Decides.{nat_tests}
use Rattle.std.proofs.lemmas.Int.Digits.{digits_value_push}
use Rattle.std.proofs.lemmas.List.Sums.{sum_by-cons}
use Rattle.std.specs.Prelude.{filter, sum_by}
use Rattle.std.specs.List.{slice_split, onto_first, list_all}
use Rattle.std.specs.Char.{is_ascii_digit, digit_value}
use Rattle.std.specs.Str.{all_ascii_digits}
use Rattle.std.specs.Str.Parse.{digits_value, digits_value_after}
use Rattle.scq_topics.specs.Exports.{runs, is_space, has_bytes, sum_of, value_sum, is_number}

-- the number, where it fits 64 bits
abbrev pub fitting : ℕ → Option ℕ
fitting n = cond (ltb n (2 ^ 64)) (Some n) None

-- what the bytes sum up to after an earlier sum and a token of this value and so many digits
abbrev pub run : ℕ → ℕ → ℕ → List ℕ → Option ℕ
run sum value digits [] = fitting (sum + value)
run sum value digits (byte ∷ bytes) =
    cond (eqb byte 32)
    (cond (ltb (sum + value) (2 ^ 64)) (run (sum + value) 0 0 bytes) None)
    (cond (is_ascii_digit byte && ltb digits 20 && ltb (value * 10 + (byte - 48)) (2 ^ 64))
    (run sum (value * 10 + (byte - 48)) (digits + 1) bytes)
    None)

-- the parts with a token's bytes put before the first
abbrev onto : List ℕ → List (List ℕ) → List (List ℕ)
onto token [] = (token ++ []) ∷ []
onto token (part ∷ parts) = (token ++ part) ∷ parts

-- a first value is added to the earlier sum, where that fits
first_added : (sum first more limit : ℕ) (rest : Bool)
    → cond (rest && ltb (sum + (first + more)) limit) (Some (sum + (first + more))) None
    ≡ cond (ltb (sum + first) limit) (cond (rest && ltb (sum + first + more) limit) (Some (sum + first + more)) None) None
first_added sum first more limit true = grind (arith, nat_tests)
first_added sum first more limit false = grind (arith, nat_tests)

-- nothing is added to an earlier sum, where that fits
nothing_added : (sum more limit : ℕ) (rest : Bool)
    → cond (rest && ltb (sum + more) limit) (Some (sum + more)) None
    ≡ cond (ltb (sum + 0) limit) (cond (rest && ltb (sum + 0 + more) limit) (Some (sum + 0 + more)) None) None
nothing_added sum more limit true = grind (arith, nat_tests)
nothing_added sum more limit false = grind (arith, nat_tests)

module _ (number : List ℕ → Bool) (value : List ℕ → ℕ) (limit : ℕ) where
  -- the tokens' values added to an earlier sum, where each is a number and the sum fits
  abbrev plus : ℕ → List (List ℕ) → Option ℕ
  plus sum tokens = cond (list_all number tokens && ltb (sum + sum_by value tokens) limit) (Some (sum + sum_by value tokens)) None

  -- a number first: it is added, where the sum fits
  plus-cons : (sum : ℕ) (token : List ℕ) (tokens : List (List ℕ)) → number token ≡ true
      → plus sum (token ∷ tokens) ≡ cond (ltb (sum + value token) limit) (plus (sum + value token) tokens) None
  plus-cons sum token tokens e =
      rw (e, sum_by-cons value token tokens) (first_added sum (value token) (sum_by value tokens) limit (list_all number tokens))

  -- no number first: there is no sum
  plus-refused : (sum : ℕ) (token : List ℕ) (tokens : List (List ℕ)) → number token ≡ false → plus sum (token ∷ tokens) ≡ None
  plus-refused sum token tokens e = rw e refl

  -- the first part, if it has bytes, is a number: it is added
  plus-part : (sum : ℕ) (token : List ℕ) (parts : List (List ℕ)) → value [] ≡ 0 → number token ≡ true
      → plus sum (filter has_bytes (token ∷ parts)) ≡ cond (ltb (sum + value token) limit) (plus (sum + value token) (filter has_bytes parts)) None
  plus-part sum [] parts zero e = rw zero (nothing_added sum (sum_by value (filter has_bytes parts)) limit (list_all number (filter has_bytes parts)))
  plus-part sum (byte ∷ token) parts zero e = plus-cons sum (byte ∷ token) (filter has_bytes parts) e

true_or : (b : Bool) → (b ≡ true) ⊎ (b ≡ false)
true_or true = inl refl
true_or false = inr refl

-- digits that fit so far
record IsBegun (token : List ℕ) : Type 0 where
  digits : all_ascii_digits token ≡ true
  short : length token ≤ 20
  fits : digits_value 10 token < 2 ^ 64

is_number-begun : (token : List ℕ) → IsBegun token → is_number token ≡ true
is_number-begun token t = rw t.digits (grind (arith, nat_tests, t.short, t.fits))

both_true : (a b : Bool) → (a && b) ≡ true → (a ≡ true) × (b ≡ true)
both_true true b e = (refl, e)
both_true false b e = cc

all_ascii_digits-append : (xs ys : List ℕ) → all_ascii_digits xs ≡ true → all_ascii_digits (xs ++ ys) ≡ all_ascii_digits ys
all_ascii_digits-append [] ys e = refl
all_ascii_digits-append (x ∷ xs) ys e =
    let both = both_true (is_ascii_digit x) (all_ascii_digits xs) e in
    rw both.0 (all_ascii_digits-append xs ys both.1)

digits_value_after-append : (n : ℕ) (xs ys : List ℕ) → digits_value_after 10 n (xs ++ ys) ≡ digits_value_after 10 (digits_value_after 10 n xs) ys
digits_value_after-append n [] ys = refl
digits_value_after-append n (x ∷ xs) ys = digits_value_after-append (n * 10 + digit_value x) xs ys

digits_value_after-le : (n : ℕ) (xs : List ℕ) → n ≤ digits_value_after 10 n xs
digits_value_after-le n [] = omega arith
digits_value_after-le n (x ∷ xs) = omega (arith, digits_value_after-le (n * 10 + digit_value x) xs)

digit_value-digit : (byte : ℕ) → is_ascii_digit byte ≡ true → digit_value byte ≡ byte - 48
digit_value-digit byte e = grind (arith, nat_tests)

-- a token with one more digit
longer : (token : List ℕ) (byte : ℕ) → is_ascii_digit byte ≡ true
    → digits_value 10 (token ++ byte ∷ []) ≡ digits_value 10 token * 10 + (byte - 48)
longer token byte e = digits_value_push 10 token byte ∙ ap (λ d. digits_value 10 token * 10 + d) (digit_value-digit byte e)

-- the test of one more byte
abbrev goes_on : List ℕ → ℕ → Bool
goes_on token byte = is_ascii_digit byte && ltb (length token) 20 && ltb (digits_value 10 token * 10 + (byte - 48)) (2 ^ 64)

digit_on : (token : List ℕ) (byte : ℕ) → goes_on token byte ≡ true → is_ascii_digit byte ≡ true
digit_on token byte e =
    let outer = both_true (is_ascii_digit byte && ltb (length token) 20) (ltb (digits_value 10 token * 10 + (byte - 48)) (2 ^ 64)) e in
    (both_true (is_ascii_digit byte) (ltb (length token) 20) outer.0).0

IsBegun-longer : (token : List ℕ) (byte : ℕ) → IsBegun token → goes_on token byte ≡ true → IsBegun (token ++ byte ∷ [])
IsBegun-longer token byte t e =
    let outer = both_true (is_ascii_digit byte && ltb (length token) 20) (ltb (digits_value 10 token * 10 + (byte - 48)) (2 ^ 64)) e in
    let inner = both_true (is_ascii_digit byte) (ltb (length token) 20) outer.0 in
    record {
      digits = all_ascii_digits-append token (byte ∷ []) t.digits ∙ rw inner.0 refl;
      short = rw (length-append token (byte ∷ [])) (grind (arith, nat_tests, inner.1));
      fits = rw (longer token byte inner.0) (grind (arith, nat_tests, outer.1));
    }

-- a token with one more digit and then any part is at least as long, and at least as much
is_number-longer : (token part : List ℕ) (byte : ℕ) → is_ascii_digit byte ≡ true
    → (length token + 1 ≤ length ((token ++ byte ∷ []) ++ part))
    × (digits_value 10 token * 10 + (byte - 48) ≤ digits_value 10 ((token ++ byte ∷ []) ++ part))
is_number-longer token part byte e = (
  omega (arith, length-append (token ++ byte ∷ []) part, length-append token (byte ∷ [])),
  omega (
    arith,
    digits_value_after-append 0 (token ++ byte ∷ []) part,
    digits_value_after-le (digits_value 10 (token ++ byte ∷ [])) part,
    longer token byte e,
  ),
)

-- a test of three parts fails where one of them does
fails_at_digits : (a b c : Bool) → b ≡ false → (a && b && c) ≡ false
fails_at_digits true b c e = rw e refl
fails_at_digits false b c e = refl

fails_at_bounds : (d : Bool) (len len' value value' limit : ℕ) → len + 1 ≤ len' → value ≤ value'
    → (true && ltb len 20 && ltb value limit) ≡ false → (leb len' 20 && d && ltb value' limit) ≡ false
fails_at_bounds true len len' value value' limit longer more e = grind (arith, nat_tests)
fails_at_bounds false len len' value value' limit longer more e = fails_at_digits (leb len' 20) false (ltb value' limit) refl

is_number-refused : (token part : List ℕ) (byte : ℕ) → IsBegun token → goes_on token byte ≡ false → is_number ((token ++ byte ∷ []) ++ part) ≡ false
is_number-refused token part byte t e =
    elim (true_or (is_ascii_digit byte)) [
      | inl digit ↦
          let bounds = is_number-longer token part byte digit in
          fails_at_bounds _ (length token) _ (digits_value 10 token * 10 + (byte - 48)) _ (2 ^ 64) bounds.0 bounds.1 (rw digit at e)
      | inr other ↦
          fails_at_digits _ _ _ (
          ap all_ascii_digits (append_assoc token (byte ∷ []) part)
          ∙ all_ascii_digits-append token (byte ∷ part) t.digits
          ∙ rw other refl
          )
    ]

-- a token's bytes and one more, put before the first part
onto-onto_first : (token : List ℕ) (byte : ℕ) (parts : List (List ℕ)) → onto token (onto_first byte parts) ≡ onto (token ++ byte ∷ []) parts
onto-onto_first token byte [] = ap (λ first. first ∷ []) (sym (append-nil (token ++ byte ∷ [])))
onto-onto_first token byte (part ∷ parts) = ap (λ first. first ∷ parts) (sym (append_assoc token (byte ∷ []) part))

-- no bytes put before the first part
filter-onto_nothing : (parts : List (List ℕ)) → filter has_bytes (onto [] parts) ≡ filter has_bytes parts
filter-onto_nothing [] = refl
filter-onto_nothing (part ∷ parts) = refl

-- `plus` at 64 bits
abbrev plus_numbers : ℕ → List (List ℕ) → Option ℕ
plus_numbers sum tokens = plus is_number (digits_value 10) (2 ^ 64) sum tokens

has_bytes-longer : (token part : List ℕ) (byte : ℕ) → has_bytes ((token ++ byte ∷ []) ++ part) ≡ true
has_bytes-longer [] part byte = refl
has_bytes-longer (first ∷ token) part byte = refl

-- a token that cannot go on as it does: there is no sum
plus-not_going_on : (sum : ℕ) (token : List ℕ) (byte : ℕ) (parts : List (List ℕ)) → IsBegun token → goes_on token byte ≡ false
    → plus_numbers sum (filter has_bytes (onto (token ++ byte ∷ []) parts)) ≡ None
plus-not_going_on sum token byte [] t e =
    rw (has_bytes-longer token [] byte) (plus-refused is_number (digits_value 10) (2 ^ 64) sum ((token ++ byte ∷ []) ++ []) []
    (is_number-refused token [] byte t e))
plus-not_going_on sum token byte (part ∷ parts) t e =
    rw (has_bytes-longer token part byte) (plus-refused is_number (digits_value 10) (2 ^ 64) sum ((token ++ byte ∷ []) ++ part) (filter has_bytes parts)
    (is_number-refused token part byte t e))

-- a token that ends: it is added
plus-ended : (sum : ℕ) (token : List ℕ) (parts : List (List ℕ)) → IsBegun token
    → plus_numbers sum (filter has_bytes ((token ++ []) ∷ parts))
    ≡ cond (ltb (sum + digits_value 10 token) (2 ^ 64)) (plus_numbers (sum + digits_value 10 token) (filter has_bytes parts)) None
plus-ended sum token parts t =
    rw (append-nil token) (plus-part is_number (digits_value 10) (2 ^ 64) sum token parts refl (is_number-begun token t))

-- nothing more is added
plus-nothing : (n : ℕ) → cond (ltb n (2 ^ 64)) (plus_numbers n []) None ≡ fitting n
plus-nothing n = grind (arith, nat_tests)

nothing_begun : IsBegun []
nothing_begun = record { digits = refl; short = lit≤ tt; fits = lit< tt }

run-is : (bytes : List ℕ) (sum : ℕ) (token : List ℕ) → IsBegun token
    → run sum (digits_value 10 token) (length token) bytes ≡ plus_numbers sum (filter has_bytes (onto token (slice_split is_space bytes)))
run-is [] sum token t = sym (plus-ended sum token [] t ∙ plus-nothing (sum + digits_value 10 token))
run-is (byte ∷ bytes) sum token t =
    elim (true_or (eqb byte 32)) [
      | inl space ↦
          rw space (
          ap (λ more. cond (ltb (sum + digits_value 10 token) (2 ^ 64)) more None) (
          run-is bytes (sum + digits_value 10 token) [] nothing_begun
          ∙ ap (plus_numbers (sum + digits_value 10 token)) (filter-onto_nothing (slice_split is_space bytes))
          )
          ∙ sym (plus-ended sum token (slice_split is_space bytes) t)
          )
      | inr other ↦
          rw (other, onto-onto_first token byte (slice_split is_space bytes)) (
          elim (true_or (goes_on token byte)) [
            | inl on ↦
                rw on (
                rw (longer token byte (digit_on token byte on), length-append token (byte ∷ [])) at
                (run-is bytes sum (token ++ byte ∷ []) (IsBegun-longer token byte t on))
                )
            | inr off ↦ rw off (sym (plus-not_going_on sum token byte (slice_split is_space bytes) t off))
          ]
          )
    ]

from_zero : (total : ℕ) (ok : Bool) → cond (ok && ltb (0 + total) (2 ^ 64)) (Some (0 + total)) None ≡ cond (ok && ltb total (2 ^ 64)) (Some total) None
from_zero total ok = rw (zero-add total) refl

-- the run over all bytes is the sum of their tokens
pub run-runs : (bytes : List ℕ) → run 0 0 0 bytes ≡ sum_of (runs is_space bytes)
run-runs bytes =
    run-is bytes 0 [] nothing_begun
    ∙ ap (plus_numbers 0) (filter-onto_nothing (slice_split is_space bytes))
    ∙ from_zero (value_sum (runs is_space bytes)) (list_all is_number (runs is_space bytes))
