-- Members that have positions: in order, apart, and told by their order alone.
use Rattle.std.proofs.Common.{◌≡◌, ◌≢◌, ◌∙◌, refl, sym, subst, inl, inr, arith, true, false, ℕ, zero, suc, ◌+◌, ◌⊎◌, Bool, List, [], ◌∷◌, ◌++◌}
use Rattle.std.specs.Prelude.{◌==◌, ◌&&◌, slice_index_or}
use Rattle.std.specs.List.{All, Contains, IsDistinct}
use Rattle.std.specs.List.Sorted.{IsPermutation}
use Rattle.std.proofs.lemmas.Bool.Decides.{nat_tests}
use Rattle.std.proofs.lemmas.List.Elements.{All-nil, All-cons, All-head, All-tail, All-append, All-weaker, recursion_from_All}
use Rattle.std.proofs.lemmas.List.Sorted.{IsPermutation-sym, Contains-permutation}
use Rattle.std.proofs.lemmas.Map.Keys.{IsDistinct-cons, IsDistinct-from_apart, IsDistinct-IsPermutation, apart_from_distinct}
use Rattle.scq_collect.specs.Exports.{AreApart, IsBefore, StandInOrder, IsSorted}

-- the same position, as a test
abbrev pub is_position : ℕ × ℕ × ℕ → ℕ × ℕ × ℕ → Bool
is_position p q = (p.0 == q.0) && ((p.1 == q.1) && (p.2 == q.2))

pub before-before : (p q r : ℕ × ℕ × ℕ) → IsBefore p q → IsBefore q r → IsBefore p r
before-before p q r first second = grind arith

pub not-before-itself : (p : ℕ × ℕ × ℕ) → ¬ IsBefore p p
not-before-itself p before = grind arith

before-other : (p q : ℕ × ℕ × ℕ) → IsBefore p q → is_position p q ≡ false
before-other p q before = grind (arith, nat_tests)

other-before : (p q : ℕ × ℕ × ℕ) → ¬ IsBefore q p → is_position p q ≡ false → IsBefore p q
other-before p q not_before other = grind (arith, nat_tests)

pub is_position-flip : (p q : ℕ × ℕ × ℕ) → is_position p q ≡ is_position q p
is_position-flip p q = grind (arith, nat_tests)

apart-other : (p q : ℕ × ℕ × ℕ) → p ≢ q → is_position p q ≡ false
apart-other p q apart = at (is_position p q) refl where
  at : (b : Bool) → is_position p q ≡ b → b ≡ false
  at false e = refl
  at true e =
      let file : p.0 ≡ q.0 = grind (arith, nat_tests) in
      let line : p.1 ≡ q.1 = grind (arith, nat_tests) in
      let part : p.2 ≡ q.2 = grind (arith, nat_tests) in
      absurd (apart (λ i. (file i, line i, part i)))

-- each member stands before all that follow it
abbrev pub Ascends : {A : Type 0} → (A → ℕ × ℕ × ℕ) → List A → Type 0
Ascends position [] = Unit {0}
Ascends position (x ∷ xs) = All (λ z. IsBefore (position x) (position z)) xs × Ascends position xs

pub ascends : {A : Type 0} (position : A → ℕ × ℕ × ℕ) (xs : List A) → StandInOrder position xs → Ascends position xs
ascends position [] order = tt
ascends {A} position (x ∷ []) order = (All-nil (λ (z : A). IsBefore (position x) (position z)), tt)
ascends {A} position (x ∷ y ∷ xs) order =
    let rest : Ascends position (y ∷ xs) = ascends position (y ∷ xs) (λ k d within. next k d (order (suc k) d (omega arith))) in
    let first : IsBefore (position x) (position y) = order 0 x (omega arith) in (
      All-cons (λ (z : A). IsBefore (position x) (position z)) y xs first
          (All-weaker (λ (z : A). IsBefore (position y) (position z)) (λ (z : A). IsBefore (position x) (position z))
          (λ z after. before-before (position x) (position y) (position z) first after) xs rest.0),
      rest,
    )
  where
    next : (k : ℕ) (d : A) → IsBefore (position (slice_index_or (x ∷ y ∷ xs) (suc k) d)) (position (slice_index_or (x ∷ y ∷ xs) (suc k + 1) d))
        → IsBefore (position (slice_index_or (y ∷ xs) k d)) (position (slice_index_or (y ∷ xs) (k + 1) d))
    next k d here =
        let same : suc k + 1 ≡ suc (k + 1) = omega arith in
        subst (λ j. IsBefore (position (slice_index_or (y ∷ xs) k d)) (position (slice_index_or (x ∷ y ∷ xs) j d))) same here

-- members that ascend, and behind them all others that do
pub ascends-append : {A : Type 0} (position : A → ℕ × ℕ × ℕ) (xs ys : List A) → Ascends position xs → Ascends position ys
    → All (λ x. All (λ y. IsBefore (position x) (position y)) ys) xs → Ascends position (xs ++ ys)
ascends-append position [] ys first second across = second
ascends-append {A} position (x ∷ xs) ys first second across = (
  All-append (λ (z : A). IsBefore (position x) (position z)) xs ys first.0 (All-head (λ (x : A). All (λ y. IsBefore (position x) (position y)) ys) x xs across),
  ascends-append position xs ys first.1 second (All-tail (λ (x : A). All (λ y. IsBefore (position x) (position y)) ys) x xs across),
)

-- those that ascend are apart
pub ascends-distinct : {A : Type 0} (position : A → ℕ × ℕ × ℕ) (xs : List A) → Ascends position xs → IsDistinct (λ (x y : A). is_position (position x) (position y)) xs
unfolding IsDistinct
ascends-distinct position [] up = tt
ascends-distinct {A} position (x ∷ xs) up =
    IsDistinct-cons (λ (x y : A). is_position (position x) (position y)) x xs
    (recursion_from_All (λ (y : A). is_position (position x) (position y) ≡ false) xs
    (All-weaker (λ (z : A). IsBefore (position x) (position z)) (λ (y : A). is_position (position x) (position y) ≡ false)
    (λ z before. before-other (position x) (position z) before) xs up.0))
    (ascends-distinct position xs up.1)

pub apart-distinct : {A : Type 0} (position : A → ℕ × ℕ × ℕ) (xs : List A) → AreApart position xs → IsDistinct (λ (x y : A). is_position (position x) (position y)) xs
apart-distinct {A} position xs apart =
    IsDistinct-from_apart (λ (x y : A). is_position (position x) (position y)) xs
    (λ i j d less within. apart-other (position (slice_index_or xs i d)) (position (slice_index_or xs j d)) (apart i j d less within))

-- members that are apart and sorted are in order
pub sorted-in-order : {A : Type 0} (position : A → ℕ × ℕ × ℕ) (members merged : List A) → IsDistinct (λ (x y : A). is_position (position x) (position y)) members
    → IsPermutation members merged → IsSorted position merged → StandInOrder position merged
sorted-in-order {A} position members merged distinct same sorted k d within =
    let test : A → A → Bool = λ x y. is_position (position x) (position y) in
    let all : IsDistinct test merged = IsDistinct-IsPermutation test (λ x y. is_position-flip (position x) (position y)) members merged same distinct in
    other-before (position (slice_index_or merged k d)) (position (slice_index_or merged (k + 1) d)) (sorted k d within)
    (apart_from_distinct test merged k (k + 1) d all (omega arith) within)

-- a member is the first or one of the others
pub contains-cases : {A : Type 0} (y z : A) (ys : List A) → Contains (y ∷ ys) z → (y ≡ z) ⊎ Contains ys z
contains-cases y z ys (zero, within, is) = inl is
contains-cases y z ys (suc k, within, is) = inr (k, omega arith, is)

pub contains-first : {A : Type 0} (y : A) (ys : List A) → Contains (y ∷ ys) y
contains-first y ys = (0, omega arith, refl)

pub contains-more : {A : Type 0} (y z : A) (ys : List A) → Contains ys z → Contains (y ∷ ys) z
contains-more y z ys (k, within, is) = (suc k, omega arith, is)

-- what stands among those behind x stands behind x
behind : {A : Type 0} (position : A → ℕ × ℕ × ℕ) (x z : A) (xs : List A) → Ascends position (x ∷ xs) → Contains xs z → IsBefore (position x) (position z)
behind position x z xs up (k, within, is) = subst (λ a. IsBefore (position x) (position a)) is (up.0 k z within)

-- the first of each is among the other's, and neither stands behind the other
first-same : {A : Type 0} (position : A → ℕ × ℕ × ℕ) (x y : A) (xs ys : List A) → Ascends position (x ∷ xs) → Ascends position (y ∷ ys)
    → (y ≡ x) ⊎ Contains ys x → (x ≡ y) ⊎ Contains xs y → x ≡ y
first-same position x y xs ys up up' (inl e) other = sym e
first-same position x y xs ys up up' (inr c) (inl e) = e
first-same position x y xs ys up up' (inr c) (inr d) =
    absurd (not-before-itself (position x) (before-before (position x) (position y) (position x) (behind position x y xs up d) (behind position y x ys up' c)))

-- what stands behind one first is among those behind the same first
others-same : {A : Type 0} (position : A → ℕ × ℕ × ℕ) (z x y : A) (xs ys : List A) → x ≡ y → Ascends position (x ∷ xs) → Contains xs z → (y ≡ z) ⊎ Contains ys z
    → Contains ys z
others-same {A} position z x y xs ys same up c (inl e) =
    absurd (not-before-itself (position x) (subst (λ (m : A). IsBefore (position x) (position m)) (sym e ∙ sym same) (behind position x z xs up c)))
others-same position z x y xs ys same up c (inr d) = d

contains-none : {A : Type 0} (z : A) → ¬ Contains [] z
contains-none z (k, within, is) = absurd (omega arith)

-- two lists that ascend and have the same members are one
pub same-members : {A : Type 0} (position : A → ℕ × ℕ × ℕ) (xs ys : List A) → Ascends position xs → Ascends position ys
    → ((z : A) → Contains xs z → Contains ys z) → ((z : A) → Contains ys z → Contains xs z) → xs ≡ ys
same-members position [] [] up up' there back = refl
same-members position [] (y ∷ ys) up up' there back = absurd (contains-none y (back y (contains-first y ys)))
same-members position (x ∷ xs) [] up up' there back = absurd (contains-none x (there x (contains-first x xs)))
same-members {A} position (x ∷ xs) (y ∷ ys) up up' there back =
    let head : x ≡ y =
    first-same position x y xs ys up up' (contains-cases y x ys (there x (contains-first x xs))) (contains-cases x y xs (back y (contains-first y ys))) in
    let tails : xs ≡ ys =
    same-members position xs ys up.1 up'.1
    (λ z c. others-same position z x y xs ys head up c (contains-cases y z ys (there z (contains-more x z xs c))))
    (λ z c. others-same position z y x ys xs (sym head) up' c (contains-cases x z xs (back z (contains-more y z ys c)))) in
    λ i. head i ∷ tails i

-- sorted members in order of positions, where as many others that ascend are the same
pub exactly : {A : Type 0} (position : A → ℕ × ℕ × ℕ) (members merged given : List A) → IsPermutation members merged → IsSorted position merged
    → Ascends position given → IsPermutation members given → merged ≡ given
exactly {A} position members merged given same sorted up all =
    let test : A → A → Bool = λ x y. is_position (position x) (position y) in
    let distinct : IsDistinct test members =
    IsDistinct-IsPermutation test (λ x y. is_position-flip (position x) (position y)) given members (IsPermutation-sym members given all)
    (ascends-distinct position given up) in
    let order : StandInOrder position merged = sorted-in-order position members merged distinct same sorted in
    same-members position merged given (ascends position merged order) up
    (λ z c. Contains-permutation members given z all (Contains-permutation merged members z (IsPermutation-sym members merged same) c))
    (λ z c. Contains-permutation members merged z same (Contains-permutation given members z (IsPermutation-sym members given all) c))
