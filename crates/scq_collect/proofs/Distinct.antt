-- Lists in which no member stands twice.
use Rattle.std.proofs.Common.{◌≡◌, ◌≢◌, refl, sym, subst, arith, zero, suc, ◌≤◌, List, [], ◌∷◌, ◌++◌, length, get_or, ⊎_elim}
use Rattle.std.specs.List.{All, AllPairs, Contains, remove}
use Rattle.std.specs.List.Sorted.{IsPermutation}
use Rattle.std.proofs.lemmas.List.{append-nil, length-append}
use Rattle.std.proofs.lemmas.List.Elements.{Contains-append_cases, Contains-get_or}
use Rattle.std.proofs.lemmas.List.Kept.{AllPairs-cons}
use Rattle.std.proofs.lemmas.List.Sorted.{IsPermutation-refl, IsPermutation-trans, IsPermutation-cons, IsPermutation-remove, Contains-permutation, length_permutation}
use Rattle.scq_collect.proofs.Orders.{contains-cases, contains-first, contains-more}

-- no member stands twice
abbrev pub IsDistinct : {A : Type 0} → List A → Type 0
IsDistinct xs = AllPairs (λ x y. x ≢ y) xs

pub distinct-tail : {A : Type 0} (x : A) (xs : List A) → IsDistinct (x ∷ xs) → IsDistinct xs
distinct-tail x xs apart i j d less within = apart (suc i) (suc j) d (omega arith) (omega arith)

-- where no member stands twice, the first is no later one
pub distinct-front : {A : Type 0} (x : A) (xs : List A) → IsDistinct (x ∷ xs) → Contains xs x → ⊥
distinct-front x xs apart (k, within, is) = apart zero (suc k) x (omega arith) (omega arith) (sym is)

-- a list whose members are different members of another: the other has these, and the rest
pub included : {A : Type 0} (xs ys : List A) → IsDistinct xs → ((z : A) → Contains xs z → Contains ys z) → (rest : List A) × IsPermutation ys (xs ++ rest)
included [] ys apart within = (ys, IsPermutation-refl ys)
included (x ∷ xs) ys apart within =
    let at = within x (contains-first x xs) in
    let others : List _ = remove ys at.0 in
    let taken : IsPermutation ys (x ∷ others) = IsPermutation-remove ys at.0 x at.1 (sym at.2) in
    let still : (z : _) → Contains xs z → Contains others z = λ z has.
    ⊎_elim (λ (e : x ≡ z). absurd (distinct-front x xs apart (subst (Contains xs) (sym e) has))) (λ (h : Contains others z). h)
    (contains-cases x z others (Contains-permutation ys (x ∷ others) z taken (within z (contains-more x z xs has)))) in
    let more = included xs others (distinct-tail x xs apart) still in
    (more.0, IsPermutation-trans ys (x ∷ others) (x ∷ (xs ++ more.0)) taken (IsPermutation-cons x others (xs ++ more.0) more.1))

pub included-length : {A : Type 0} (xs ys : List A) → IsDistinct xs → ((z : A) → Contains xs z → Contains ys z) → length xs ≤ length ys
included-length xs ys apart within =
    let more = included xs ys apart within in
    omega (arith, length_permutation ys (xs ++ more.0) more.1, length-append xs more.0)

-- two lists with the same members, none of which stands twice, are one another in some order
pub same-members : {A : Type 0} (xs ys : List A) → IsDistinct xs → IsDistinct ys → ((z : A) → Contains xs z → Contains ys z)
    → ((z : A) → Contains ys z → Contains xs z)
    → IsPermutation xs ys
same-members xs ys one other there back =
    let more = included ys xs other back in
    let few : length xs ≤ length ys = included-length xs ys one there in
    let none : more.0 ≡ [] = empty more.0 (omega (arith, few, length_permutation xs (ys ++ more.0) more.1, length-append ys more.0)) in
    let P : List _ → Type 0 = λ rest. IsPermutation xs (ys ++ rest) in
    subst (IsPermutation xs) (append-nil ys) (subst P none more.1) where
      empty : {A : Type 0} (zs : List A) → length zs ≤ 0 → zs ≡ []
      empty [] few = refl
      empty (z ∷ zs) few = absurd (omega arith)

-- the first of a list and a later one
pub pairs-front : {A : Type 0} (R : A → A → Type 0) (x z : A) (xs : List A) → AllPairs R (x ∷ xs) → Contains xs z → R x z
pairs-front R x z xs one (k, within, is) = subst (R x) is (one zero (suc k) z (omega arith) (omega arith))

-- pairs of two lists, one behind the other
pub pairs-append : {A : Type 0} (R : A → A → Type 0) (xs ys : List A) → AllPairs R xs → AllPairs R ys → ((m n : A) → Contains xs m → Contains ys n → R m n)
    → AllPairs R (xs ++ ys)
pairs-append R [] ys one other across = other
pairs-append R (x ∷ xs) ys one other across =
    let behind : All (R x) (xs ++ ys) = λ k d within.
    ⊎_elim (λ (h : Contains xs (get_or (xs ++ ys) k d)). pairs-front R x _ xs one h)
    (λ (h : Contains ys (get_or (xs ++ ys) k d)). across x _ (contains-first x xs) h)
    (Contains-append_cases xs ys (get_or (xs ++ ys) k d) (Contains-get_or (xs ++ ys) k d within)) in
    let rest = pairs-append R xs ys (λ i j d less within. one (suc i) (suc j) d (omega arith) (omega arith)) other
    (λ m n in_xs in_ys. across m n (contains-more x m xs in_xs) in_ys) in
    AllPairs-cons R x (xs ++ ys) behind rest
