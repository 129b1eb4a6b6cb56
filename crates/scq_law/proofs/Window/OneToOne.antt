-- A one-to-one map of the numbers below n into themselves meets each of them. Plan: by recursion on n. The value at the
-- last number goes to the number that met n, and the rest is one-to-one below n.
use Rattle.std.proofs.Common.{◌≡◌, ◌≢◌, ℕ, zero, suc, ◌<◌, ◌⊎◌, inl, inr, refl, sym, ◌∙◌, arith, eq-eqb, ne_eqb}
use Rattle.std.specs.Prelude.{◌==◌, if◌then◌else◌}
use Rattle.std.proofs.lemmas.Bool.{cases_eq}

-- a number below n has this value
pub record Meets (f : ℕ → ℕ) (n y : ℕ) : Type 0 where
  pub at : ℕ
  pub low : at < n
  pub is : f at ≡ y

pub record IsOneToOne (f : ℕ → ℕ) (n : ℕ) : Type 0 where
  pub into : (x : ℕ) → x < n → f x < n
  pub apart : (x z : ℕ) → x < n → z < n → f x ≡ f z → x ≡ z

-- the map with its last value in the place of n
abbrev closed : (ℕ → ℕ) → ℕ → ℕ → ℕ
closed f n x = if f x == n then f n else f x

closed_or : (f : ℕ → ℕ) (n x : ℕ) → ((f x ≡ n) × (closed f n x ≡ f n)) ⊎ ((f x ≢ n) × (closed f n x ≡ f x))
closed_or f n x =
    elim (cases_eq (f x) n) [
      | inl same ↦ inl (same, rw (eq-eqb (f x) n same) refl)
      | inr other ↦ inr (other, rw (ne_eqb (f x) n other) refl)
    ]

closed_one_to_one : (f : ℕ → ℕ) (n : ℕ) → IsOneToOne f (suc n) → IsOneToOne (closed f n) n
closed_one_to_one f n one =
    let last = one.into n (omega arith) in
    record {
      into =
          λ x low.
          let here = one.into x (omega arith) in
          elim (closed_or f n x) [
            | inl is ↦
                elim (cases_eq (f n) n) [
                  | inl fixed ↦ let same = one.apart x n (omega arith) (omega arith) (is.0 ∙ sym fixed) in absurd (omega arith)
                  | inr moved ↦ let e = is.1 in omega arith
                ]
            | inr is ↦ let e = is.1 in let other = is.0 in omega arith
          ];
      apart =
          λ x z low less same.
          elim (closed_or f n x) [
            | inl a ↦
                elim (closed_or f n z) [
                  | inl b ↦ one.apart x z (omega arith) (omega arith) (a.0 ∙ sym b.0)
                  | inr b ↦ let e = one.apart n z (omega arith) (omega arith) (sym a.1 ∙ same ∙ b.1) in absurd (omega arith)
                ]
            | inr a ↦
                elim (closed_or f n z) [
                  | inl b ↦ let e = one.apart x n (omega arith) (omega arith) (sym a.1 ∙ same ∙ b.1) in absurd (omega arith)
                  | inr b ↦ one.apart x z (omega arith) (omega arith) (sym a.1 ∙ same ∙ b.1)
                ]
          ];
    }

pub onto : (f : ℕ → ℕ) (n : ℕ) → IsOneToOne f n → (y : ℕ) → y < n → Meets f n y
onto f zero one y low = absurd (omega arith)
onto f (suc n) one y low =
    let less = closed_one_to_one f n one in
    elim (cases_eq (f n) y) [
      | inl same ↦ record { at = n; low = omega arith; is = same }
      | inr other ↦
          elim (cases_eq y n) [
            | inl top ↦
                let last = one.into n (omega arith) in
                let met = onto (closed f n) n less (f n) (omega arith) in
                let below = met.low in
                elim (closed_or f n met.at) [
                  | inl a ↦ record { at = met.at; low = omega arith; is = a.0 ∙ sym top }
                  | inr a ↦ let e = one.apart met.at n (omega arith) (omega arith) (sym a.1 ∙ met.is) in absurd (omega arith)
                ]
            | inr not_top ↦
                let met = onto (closed f n) n less y (omega arith) in
                let below = met.low in
                elim (closed_or f n met.at) [
                  | inl a ↦ absurd (other (sym a.1 ∙ met.is))
                  | inr a ↦ record { at = met.at; low = omega arith; is = sym a.1 ∙ met.is }
                ]
          ]
    ]
