-- Lists with one place set, and how often an index is held once one came or went.
use Rattle.std.proofs.Common.{◌≡◌, ◌≢◌, ℕ, zero, suc, ◌+◌, ◌<◌, List, [], ◌∷◌, ◌++◌, length, refl, sym, ◌∙◌, ap, inl, inr, arith, eq-eqb, ne_eqb}
use Rattle.std.specs.Prelude.{Some, None, slice_get, slice_set, ◌==◌, if◌then◌else◌}
use Rattle.std.specs.List.{Contains}
use Rattle.std.proofs.lemmas.Bool.{cases_eq}
use Rattle.scq_law.specs.Exports.{times}
use Rattle.scq_band.proofs.Slots.{times-append}
use Rattle.scq_queue.specs.Exports.{without}

-- a place that was set has the new value, and the others have what they had
pub set_here : {A : Type 0} (xs : List A) (i : ℕ) (x y : A) → slice_get xs i ≡ Some x → slice_get (slice_set xs i y) i ≡ Some y
set_here [] i x y is = absurd (cc)
set_here (z ∷ zs) zero x y is = refl
set_here (z ∷ zs) (suc i) x y is = set_here zs i x y is

pub set_other : {A : Type 0} (xs : List A) (i j : ℕ) (y : A) → j ≢ i → slice_get (slice_set xs i y) j ≡ slice_get xs j
set_other [] i j y other = refl
set_other (z ∷ zs) zero zero y other = absurd (other refl)
set_other (z ∷ zs) zero (suc j) y other = refl
set_other (z ∷ zs) (suc i) zero y other = refl
set_other (z ∷ zs) (suc i) (suc j) y other = set_other zs i j y (λ e. other (ap suc e))

-- a place that is set twice, the second time as it was
pub set_back : {A : Type 0} (xs : List A) (i : ℕ) (x y : A) → slice_get xs i ≡ Some x → slice_set (slice_set xs i y) i x ≡ xs
set_back [] i x y is = refl
set_back (z ∷ zs) zero x y is = let same : z ≡ x = cc in ap (λ w. w ∷ zs) (sym same)
set_back (z ∷ zs) (suc i) x y is = ap (λ ws. z ∷ ws) (set_back zs i x y is)

-- what is in a list stands in it at least once
pub times_contains : (xs : List ℕ) (i : ℕ) → Contains xs i → 0 < times i xs
times_contains [] i there = absurd (let low = there.1 in omega (arith, low))
times_contains (x ∷ xs) i (zero, low, is) = rw (eq-eqb x i is) (omega arith)
times_contains (x ∷ xs) i (suc k, low, is) = let rest = times_contains xs i (k, omega (arith, low), is) in omega (arith, rest)

-- an index that came, and the others
pub more_here : (held : List ℕ) (i : ℕ) → times i (held ++ i ∷ []) ≡ times i held + 1
more_here held i =
    let both = times-append i held (i ∷ []) in
    let one : times i (i ∷ []) ≡ 1 = rw (eq-eqb i i refl) refl in
    omega (arith, both, one)

pub more_other : (held : List ℕ) (i j : ℕ) → j ≢ i → times j (held ++ i ∷ []) ≡ times j held
more_other held i j other =
    let both = times-append j held (i ∷ []) in
    let none : times j (i ∷ []) ≡ 0 = rw (ne_eqb i j (λ e. other (sym e))) refl in
    omega (arith, both, none)

-- an index that went, and the others
pub less_here : (held : List ℕ) (i : ℕ) → times i (without i held) ≡ 0
less_here [] i = refl
less_here (x ∷ xs) i =
    let rest = less_here xs i in
    elim (cases_eq x i) [
      | inl same ↦ rw (eq-eqb x i same) rest
      | inr other ↦ rw (ne_eqb x i other) (rw (ne_eqb x i other) (omega (arith, rest)))
    ]

pub less_other : (held : List ℕ) (i j : ℕ) → j ≢ i → times j (without i held) ≡ times j held
less_other [] i j other = refl
less_other (x ∷ xs) i j other =
    let rest = less_other xs i j other in
    elim (cases_eq x i) [
      | inl same ↦
          let apart : x ≢ j = λ e. other (sym e ∙ same) in
          rw (eq-eqb x i same) (rw (ne_eqb x j apart) (omega (arith, rest)))
      | inr differs ↦ rw (ne_eqb x i differs) (ap (λ n. (if x == j then 1 else 0) + n) rest)
    ]

-- how many are left
pub less_length : (held : List ℕ) (i : ℕ) → length (without i held) + times i held ≡ length held
less_length [] i = refl
less_length (x ∷ xs) i =
    let rest = less_length xs i in
    elim (cases_eq x i) [
      | inl same ↦ rw (eq-eqb x i same) (omega (arith, rest))
      | inr other ↦ rw (ne_eqb x i other) (omega (arith, rest))
    ]

-- a place that is set to what it has
pub set_same : {A : Type 0} (xs : List A) (i : ℕ) (x : A) → slice_get xs i ≡ Some x → slice_set xs i x ≡ xs
set_same [] i x is = refl
set_same (z ∷ zs) zero x is = let same : z ≡ x = cc in ap (λ w. w ∷ zs) (sym same)
set_same (z ∷ zs) (suc i) x is = ap (λ ws. z ∷ ws) (set_same zs i x is)

-- a place that isn't there before the last isn't behind it
pub get_past : {A : Type 0} (xs : List A) (y : A) (i : ℕ) → slice_get xs i ≡ None → i ≢ length xs → slice_get (xs ++ y ∷ []) i ≡ None
get_past [] y zero is other = absurd (other refl)
get_past [] y (suc i) is other = refl
get_past (z ∷ zs) y zero is other = absurd (cc)
get_past (z ∷ zs) y (suc i) is other = get_past zs y i is (λ e. other (ap suc e))

-- a list in which nothing stands
pub none_at_all : (xs : List ℕ) → ((i : ℕ) → times i xs ≡ 0) → xs ≡ []
none_at_all [] none = refl
none_at_all (x ∷ xs) none =
    let one : times x (x ∷ xs) ≡ 1 + times x xs = rw (eq-eqb x x refl) refl in
    let zero_of : times x (x ∷ xs) ≡ 0 = none x in
    let both : 1 + times x xs ≡ 0 = sym one ∙ zero_of in
    absurd (omega (arith, both))
