-- Sums of numbers, and sums that belong to a ring, when one number changes.
use Rattle.std.proofs.Common.{◌≡◌, ◌≢◌, ℕ, zero, suc, ◌+◌, ◌<◌, ◌⊎◌, refl, inl, inr, ap, arith}
use Rattle.std.proofs.lemmas.Bool.{cases_eq}
use Rattle.scq_core.specs.Exports.{updated_entry}
use Rattle.scq_law.specs.Exports.{sum_to}
use Rattle.scq_core.proofs.UpdatedLemmas.{updated_entry_or}

pub sum_same : (f h : ℕ → ℕ) (n : ℕ) → ((j : ℕ) → j < n → h j ≡ f j) → sum_to h n ≡ sum_to f n
sum_same f h zero same = refl
sum_same f h (suc n) same =
    let here = same n (omega arith) in let rest = sum_same f h n (λ j low. same j (omega arith)) in omega arith

pub sum_change : (f h : ℕ → ℕ) (k n : ℕ) → k < n → ((j : ℕ) → j ≢ k → h j ≡ f j) → sum_to h n + f k ≡ sum_to f n + h k
sum_change f h k zero low others = absurd (omega arith)
sum_change f h k (suc n) low others =
    elim (cases_eq n k) [
      | inl same ↦
          let rest = sum_same f h n (λ j less. others j (λ e. omega arith)) in
          let before : f n ≡ f k = ap f same in
          let after : h n ≡ h k = ap h same in
          omega arith
      | inr apart ↦
          let here = others n apart in
          let rest = sum_change f h k n (omega arith) others in
          omega arith
    ]

-- a sum of ring r, where a number of ring q changes
pub record OneMore (q r sum later before after : ℕ) : Type 0 where
  pub moves : ((r ≡ q) × (later + before ≡ sum + after)) ⊎ ((r ≢ q) × (later ≡ sum))

pub sum_updated : {A : Type 0} → (f : A → ℕ) (states : ℕ → ℕ → A) (q u : ℕ) (x : A) (r n : ℕ) → u < n
    → OneMore q r (sum_to (λ p. f (states r p)) n) (sum_to (λ p. f (updated_entry states q u x r p)) n) (f (states q u)) (f x)
sum_updated f states q u x r n low =
    elim (cases_eq r q) [
      | inl ring ↦
          let moved = sum_change (λ p. f (states r p)) (λ p. f (updated_entry states q u x r p)) u n low
          (λ j other. elim (updated_entry_or states q u x r j) [ inl a ↦ absurd (other a.1) | inr a ↦ ap f a.1 ]) in
          let after : f (updated_entry states q u x r u) ≡ f x =
          elim (updated_entry_or states q u x r u) [ inl a ↦ ap f a.2 | inr a ↦ absurd (a.0 ring refl) ] in
          let before : f (states r u) ≡ f (states q u) = ap (λ (j : ℕ). f (states j u)) ring in
          record { moves = inl (ring, omega arith) }
      | inr apart ↦
          record {
            moves =
                inr (
                  apart,
                  sum_same (λ p. f (states r p)) (λ p. f (updated_entry states q u x r p)) n
                      (λ j less. elim (updated_entry_or states q u x r j) [ inl a ↦ absurd (apart a.0) | inr a ↦ ap f a.1 ]),
                );
          }
    ]
