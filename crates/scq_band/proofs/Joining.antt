-- Numbers that are joined ring by ring, and a list of them copied into a longer one.
use Rattle.std.proofs.Common.{◌≡◌, ℕ, zero, suc, ◌+◌, ◌<◌, ◌≤◌, List, [], ◌∷◌, length, take, refl, ◌∙◌, ap, arith}
use Rattle.std.specs.Prelude.{Option, Some, None, slice_set, slice_index_or}
use Rattle.scq_band.specs.Exports.{nobody, lower_gate, both_of, known_of, larger, raised_by, AreSmall}
use Rattle.scq_band.specs.Known.{Known}
use Rattle.scq_band.specs.declared.numbers.Numbers.{Numbers}
use Rattle.scq_band.proofs.Keeping.{max_small, max_order}

-- the first list, where the numbers of the rings below n are raised
abbrev pub joined_below : ℕ → List Numbers → List Numbers → List Numbers
joined_below zero xs ys = xs
joined_below (suc n) [] ys = []
joined_below (suc n) (x ∷ xs) [] = x ∷ xs
joined_below (suc n) (x ∷ xs) (y ∷ ys) = larger x y ∷ joined_below n xs ys

-- one ring more
pub joined_next : (n : ℕ) (xs ys : List Numbers) (x y : Numbers) → n < length xs → n < length ys → x ≡ slice_index_or (joined_below n xs ys) n x
    → y ≡ known_of ys n
    → slice_set (joined_below n xs ys) n (larger x y) ≡ joined_below (suc n) xs ys
joined_next n [] ys x y low there mine its = absurd (omega arith)
joined_next n (a ∷ xs) [] x y low there mine its = absurd (omega arith)
joined_next zero (a ∷ xs) (b ∷ ys) x y low there mine its =
    ap (λ (z : Numbers). larger z y ∷ xs) mine ∙ ap (λ (z : Numbers). larger a z ∷ xs) its
joined_next (suc n) (a ∷ xs) (b ∷ ys) x y low there mine its =
    ap (λ (zs : List Numbers). larger a b ∷ zs) (joined_next n xs ys x y (omega arith) (omega arith) mine its)

-- past the end of either list all is joined
pub joined_all : (n : ℕ) (xs ys : List Numbers) → (n < length xs → n < length ys → ⊥) → joined_below n xs ys ≡ raised_by xs ys
joined_all zero [] ys over = refl
joined_all zero (x ∷ xs) [] over = refl
joined_all zero (x ∷ xs) (y ∷ ys) over = absurd (over (omega arith) (omega arith))
joined_all (suc n) [] ys over = refl
joined_all (suc n) (x ∷ xs) [] over = refl
joined_all (suc n) (x ∷ xs) (y ∷ ys) over = ap (λ (zs : List Numbers). larger x y ∷ zs) (joined_all n xs ys (λ a b. over (omega (arith, a)) (omega (arith, b))))

pub small_joined : (xs ys : List Numbers) → AreSmall xs → AreSmall ys → AreSmall (raised_by xs ys)
small_joined [] ys one other r = one r
small_joined (x ∷ xs) [] one other r = one r
small_joined (x ∷ xs) (y ∷ ys) one other zero = (
  max_small x.finished y.finished (one zero).0 (other zero).0,
  max_order x.finished y.finished x.seen y.seen (one zero).1 (other zero).1,
)
small_joined (x ∷ xs) (y ∷ ys) one other (suc r) = small_joined xs ys (λ q. one (suc q)) (λ q. other (suc q)) r

-- one element more was copied
pub copied_next : (i : ℕ) (xs ys : List Numbers) (x : Numbers) → i < length xs → i < length ys → take i xs ≡ take i ys → x ≡ slice_index_or ys i x
    → take (suc i) (slice_set xs i x) ≡ take (suc i) ys
copied_next i [] ys x low there same is = absurd (omega arith)
copied_next i (a ∷ xs) [] x low there same is = absurd (omega arith)
copied_next zero (a ∷ xs) (b ∷ ys) x low there same is = ap (λ (z : Numbers). z ∷ []) is
copied_next (suc i) (a ∷ xs) (b ∷ ys) x low there same is =
    let first : a ≡ b = cc in
    let rest : take i xs ≡ take i ys = cc in
    ap (λ (z : Numbers). z ∷ take (suc i) (slice_set xs i x)) first
    ∙ ap (λ (zs : List Numbers). b ∷ zs) (copied_next i xs ys x (omega arith) (omega arith) rest is)

pub one_more : (n : ℕ) → suc n ≡ n + 1
one_more n = omega arith

pub take_length : {A : Type 0} (n : ℕ) (xs : List A) → n ≤ length xs → n ≡ length (take n xs)
take_length zero xs low = refl
take_length (suc n) [] low = absurd (omega arith)
take_length (suc n) (x ∷ xs) low = ap suc (take_length n xs (omega arith))

-- who takes in a view that knows nothing knows what it knew
joined_none : (xs : List Numbers) → raised_by xs [] ≡ xs
joined_none [] = refl
joined_none (x ∷ xs) = refl

lower_none : (x : Option ℕ) → lower_gate x None ≡ x
lower_none None = refl
lower_none (Some a) = refl

pub both_nobody : (v : Known) → both_of v nobody ≡ v
both_nobody v =
    λ i. record { seats = v.seats; numbers = joined_none v.numbers i; gates = v.gates; gate = lower_none v.gate i }
