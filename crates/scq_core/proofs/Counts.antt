-- A sum over the parts of seats: when one part changes, and where each part gives at most 1.
use Rattle.std.proofs.Common.{◌≡◌, ℕ, zero, suc, ◌+◌, ◌<◌, ◌≤◌, refl, inl, inr, arith, eq-eqb, ne_eqb}
use Rattle.std.specs.Prelude.{Option, Some, None}
use Rattle.std.proofs.lemmas.Bool.{cases_eq}
use Rattle.scq_core.specs.Exports.{updated, SeatPart, one_on, total}
use Rattle.scq_core.proofs.UpdatedLemmas.{updated_here, updated_else}

-- a changed part of a seat that is not counted
pub total_beyond : (f : SeatPart → ℕ) (part : ℕ → SeatPart) (k : ℕ) (p : SeatPart) (n : ℕ) → n ≤ k → total f (updated part k p) n ≡ total f part n
total_beyond f part k p zero le = refl
total_beyond f part k p (suc n) le =
    rw (updated_else part k p n (λ e. omega arith), total_beyond f part k p n (omega arith)) refl

-- the sum moves by what the changed part gives more or less
pub total_updated : (f : SeatPart → ℕ) (part : ℕ → SeatPart) (k : ℕ) (p : SeatPart) (n : ℕ) → k < n → total f (updated part k p) n + f (part k) ≡ total f part n + f p
total_updated f part k p zero less = absurd (omega arith)
total_updated f part k p (suc n) less =
    elim (cases_eq n k) [
      | inl same ↦
          rw (same, updated_here part k p, total_beyond f part k p k (omega arith)) (omega arith)
      | inr apart ↦
          let rest = total_updated f part k p n (omega arith) in
          rw (updated_else part k p n apart) (omega arith)
    ]

-- at most the number of seats
pub total_few : (f : SeatPart → ℕ) (part : ℕ → SeatPart) → ((p : SeatPart) → f p ≤ 1) → (n : ℕ) → total f part n ≤ n
total_few f part few zero = omega arith
total_few f part few (suc n) = let rest = total_few f part few n in let one = few (part n) in omega arith

-- nothing where each gives nothing
pub total_none : (f : SeatPart → ℕ) (part : ℕ → SeatPart) (n : ℕ) → ((k : ℕ) → k < n → f (part k) ≡ 0) → total f part n ≡ 0
total_none f part zero none = refl
total_none f part (suc n) none =
    let here = none n (omega arith) in
    let rest = total_none f part n (λ k low. none k (omega arith)) in
    omega arith

-- fewer than the seats where one of them gives nothing
pub total_less : (f : SeatPart → ℕ) (part : ℕ → SeatPart) → ((p : SeatPart) → f p ≤ 1) → (n k : ℕ) → k < n → f (part k) ≡ 0 → total f part n < n
total_less f part few zero k low none = absurd (omega arith)
total_less f part few (suc n) k low none =
    elim (cases_eq n k) [
      | inl same ↦
          let here : f (part n) ≡ 0 = rw same none in
          let rest = total_few f part few n in
          omega arith
      | inr apart ↦
          let one = few (part n) in
          let rest = total_less f part few n k (omega arith) none in
          omega arith
    ]

-- each seat's own number is in the sum
pub total_one : (f : SeatPart → ℕ) (part : ℕ → SeatPart) (n k : ℕ) → k < n → f (part k) ≤ total f part n
total_one f part zero k low = absurd (omega arith)
total_one f part (suc n) k low =
    elim (cases_eq n k) [
      | inl same ↦ rw same (omega arith)
      | inr apart ↦ let rest = total_one f part n k (omega arith) in omega arith
    ]

-- a seat counts at most once on a ring
pub one_on_bit : (r : ℕ) (o : Option ℕ) → one_on r o ≤ 1
one_on_bit r None = omega arith
one_on_bit r (Some q) =
    elim (cases_eq q r) [ inl same ↦ rw (eq-eqb q r same) (omega arith) | inr other ↦ rw (ne_eqb q r other) (omega arith) ]
