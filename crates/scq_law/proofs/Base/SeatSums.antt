-- Counts over the seats and over their records, when one seat's part changes.
use Rattle.std.proofs.Common.{◌≡◌, ◌≢◌, ℕ, zero, suc, ◌+◌, ◌<◌, ◌≤◌, List, [], ◌∷◌, ◌++◌, refl, inl, inr, ap, arith}
use Rattle.std.specs.List.{Contains}
use Rattle.std.proofs.lemmas.Bool.{cases_eq}
use Rattle.std.proofs.lemmas.List.Elements.{Contains-push_cases}
use Rattle.scq_core.specs.declared.ended.Ended.{Ended}
use Rattle.scq_core.specs.Exports.{SeatPart, total}
use Rattle.scq_law.specs.Exports.{tally}

-- seats that no change reaches
total_still : (f : SeatPart → ℕ) (part later : ℕ → SeatPart) (k n : ℕ) → n ≤ k → ((j : ℕ) → j ≢ k → later j ≡ part j) → total f later n ≡ total f part n
total_still f part later k zero high others = refl
total_still f part later k (suc n) high others =
    let here : f (later n) ≡ f (part n) = ap f (others n (λ same. omega arith)) in
    let rest = total_still f part later k n (omega arith) others in
    omega arith

-- the sum moves by what the changed part gives more or less
pub total_change : (f : SeatPart → ℕ) (part later : ℕ → SeatPart) (k n : ℕ) → k < n → ((j : ℕ) → j ≢ k → later j ≡ part j)
    → total f later n + f (part k) ≡ total f part n + f (later k)
total_change f part later k zero low others = absurd (omega arith)
total_change f part later k (suc n) low others =
    elim (cases_eq n k) [
      | inl same ↦
          let rest = total_still f part later k n (omega arith) others in
          let before : f (part n) ≡ f (part k) = ap (λ (j : ℕ). f (part j)) same in
          let after : f (later n) ≡ f (later k) = ap (λ (j : ℕ). f (later j)) same in
          omega arith
      | inr apart ↦
          let here : f (later n) ≡ f (part n) = ap f (others n apart) in
          let rest = total_change f part later k n (omega arith) others in
          omega arith
    ]

-- a sum of smaller numbers
pub total_le : (f h : SeatPart → ℕ) (part : ℕ → SeatPart) → ((k : ℕ) → f (part k) ≤ h (part k)) → (n : ℕ) → total f part n ≤ total h part n
total_le f h part le zero = omega arith
total_le f h part le (suc n) = let here = le n in let rest = total_le f h part le n in omega arith

pub total_plus : (f h : SeatPart → ℕ) (part : ℕ → SeatPart) (n : ℕ) → total (λ p. f p + h p) part n ≡ total f part n + total h part n
total_plus f h part zero = refl
total_plus f h part (suc n) = let rest = total_plus f h part n in omega arith

pub tally-append : (f : Ended → ℕ) (xs ys : List Ended) → tally f (xs ++ ys) ≡ tally f xs + tally f ys
tally-append f [] ys = omega arith
tally-append f (x ∷ xs) ys = let rest = tally-append f xs ys in omega arith

pub contains_none : {A : Type 0} → (y : A) → Contains [] y → ⊥
contains_none y (k, low, is) = omega arith

pub contains_one : {A : Type 0} → (x y : A) → Contains (x ∷ []) y → x ≡ y
contains_one x y has = elim (Contains-push_cases [] x y has) [ inl none ↦ absurd (contains_none y none) | inr same ↦ same ]
