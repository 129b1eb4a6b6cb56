-- Numbers from 0 on, in whatever order, are in order once they are sorted.
use Rattle.std.proofs.Common.{◌≡◌, ℕ, zero, suc, ◌+◌, ◌-◌, ◌<◌, ◌≤◌, List, [], ◌∷◌, length, map, get_or, All, eqb, sym, ◌∙◌, subst, arith}
use Rattle.std.proofs.lemmas.Bool.{ne_eqb}
use Rattle.std.proofs.lemmas.List.{get_or-map, length-map}
use Rattle.std.proofs.lemmas.List.FromFn.{length-range_with_len, get_or-range_with_len}
use Rattle.std.proofs.lemmas.List.Sorted.{length_permutation, All-permutation, IsPermutation-map, IsPermutation-trans}
use Rattle.std.proofs.lemmas.Map.Keys.{IsDistinct-from_apart, IsDistinct-IsPermutation, IsStrictlyIncreasing-from_distinct}
use Rattle.std.specs.List.{IsDistinct, range_with_len}
use Rattle.std.specs.List.Sorted.{IsPermutation, IsNonDecreasing, IsNonDecreasingBy, IsStrictlyIncreasing}

range_is_distinct : (n : ℕ) → IsDistinct eqb (range_with_len 0 n)
range_is_distinct n = IsDistinct-from_apart eqb (range_with_len 0 n) (λ i j d lt below.
    let small : j < n = omega (arith, length-range_with_len 0 n) in
    ne_eqb (get_or (range_with_len 0 n) i d) (get_or (range_with_len 0 n) j d)
    (λ same. omega (arith, get_or-range_with_len 0 n i d (omega arith), get_or-range_with_len 0 n j d small)))

range_is_below : (n : ℕ) → All (λ x. x < n) (range_with_len 0 n)
range_is_below n k d h = omega (arith, length-range_with_len 0 n, get_or-range_with_len 0 n k d (omega (arith, length-range_with_len 0 n)))

module _ (xs : List ℕ) (n : ℕ) (long : length xs ≡ n) (rises : IsStrictlyIncreasing xs) (below : All (λ x. x < n) xs) where
  at_least : (k : ℕ) → k < n → k ≤ get_or xs k 0
  at_least zero h = omega arith
  at_least (suc k) h =
      let step : get_or xs k 0 < get_or xs (k + 1) 0 = rises k (omega (arith, long)) in
      let next : k + 1 ≡ suc k = omega arith in
      subst (λ j. suc k ≤ get_or xs j 0) next (omega (arith, at_least k (omega arith), step))

  at_most : (m k : ℕ) → k + m + 1 ≡ n → get_or xs k 0 ≤ k
  at_most zero k e = omega (arith, below k 0 (omega (arith, long)))
  at_most (suc m) k e =
      let step : get_or xs k 0 < get_or xs (k + 1) 0 = rises k (omega (arith, long)) in
      omega (arith, at_most m (k + 1) (omega arith), step)

  placed : (k : ℕ) → k < n → get_or xs k 0 ≡ k
  placed k h = omega (arith, at_least k h, at_most (n - k - 1) k (omega arith))

pub sorted_numbers : (xs : List ℕ) (n : ℕ) → IsPermutation (range_with_len 0 n) xs → IsNonDecreasing xs → (k : ℕ) → k < n → get_or xs k 0 ≡ k
sorted_numbers xs n p up =
    let long = length_permutation (range_with_len 0 n) xs p ∙ length-range_with_len 0 n in
    let distinct = IsDistinct-IsPermutation eqb (λ x y. grind arith) (range_with_len 0 n) xs p (range_is_distinct n) in
    placed xs n long (IsStrictlyIncreasing-from_distinct xs up distinct) (All-permutation (λ x. x < n) (range_with_len 0 n) xs p (range_is_below n))

pub first : {X : Type 0} (xs : List X) → 0 < length xs → X
first [] h = absurd (omega arith)
first (x ∷ xs) h = x

numbers_rise : {X : Type 0} (number : X → ℕ) (xs : List X) → IsNonDecreasingBy number xs → IsNonDecreasing (map number xs)
numbers_rise number xs up i j e le h =
    let small : j < length xs = omega (arith, length-map xs number) in
    let d = first xs (omega arith) in
    omega (arith, up i j d le small, get_or-map number xs i d e (omega arith), get_or-map number xs j d e small)

-- what was in some order, by the numbers that tell it, and was sorted by them
pub sorted_places : {X : Type 0} (number : X → ℕ) (xs ys : List X) (n : ℕ) → IsPermutation (range_with_len 0 n) (map number xs)
    → IsPermutation xs ys → IsNonDecreasingBy number ys
    → (length ys ≡ n) × ((k : ℕ) (d : X) → k < length ys → number (get_or ys k d) ≡ k)
sorted_places number xs ys n p moved up =
    let q = IsPermutation-trans (range_with_len 0 n) (map number xs) (map number ys) p (IsPermutation-map number xs ys moved) in
    let long : length ys ≡ n = sym (length-map ys number) ∙ length_permutation (range_with_len 0 n) (map number ys) q ∙ length-range_with_len 0 n in
    (long, λ k d h. sym (get_or-map number ys k d 0 h) ∙ sorted_numbers (map number ys) n q (numbers_rise number ys up) k (omega (arith, long)))
