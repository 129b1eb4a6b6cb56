-- A map of the numbers below m into themselves that keeps them apart meets each of them.
use Rattle.std.proofs.Common.{◌≡◌, ◌≢◌, ℕ, zero, suc, ◌<◌, refl, sym, ◌∙◌, arith, inl, inr, eq-eqb, ne_eqb}
use Rattle.std.specs.Prelude.{◌==◌, if◌then◌else◌}
use Rattle.std.proofs.lemmas.Bool.{cases_eq}

-- it stays below m, and different numbers stay different
pub record IsApart (m : ℕ) (f : ℕ → ℕ) : Type 0 where
  pub small : (i : ℕ) → i < m → f i < m
  pub apart : (i j : ℕ) → i < m → j < m → f i ≡ f j → i ≡ j

-- where the map meets the number k it goes to v in its place
around : (f : ℕ → ℕ) (k v : ℕ) → ℕ → ℕ
around f k v i = if f i == k then v else f i

around-met : (f : ℕ → ℕ) (k v i : ℕ) → f i ≡ k → around f k v i ≡ v
unfolding around
around-met f k v i met = rw (eq-eqb (f i) k met) refl

around-else : (f : ℕ → ℕ) (k v i : ℕ) → f i ≢ k → around f k v i ≡ f i
unfolding around
around-else f k v i other = rw (ne_eqb (f i) k other) refl

-- without its last number the map is one of the numbers below it, once what met the last goes where the last went
shorter : (k : ℕ) (f : ℕ → ℕ) → IsApart (suc k) f → IsApart k (around f k (f k))
shorter k f is =
    record {
      small =
          λ i low.
          elim (cases_eq (f i) k) [
            | inl met ↦
                let last : f k < suc k = is.small k (omega arith) in
                rw (around-met f k (f k) i met)
                (elim (cases_eq (f k) k) [
                  | inl same ↦ let one : i ≡ k = is.apart i k (omega arith) (omega arith) (met ∙ sym same) in omega arith
                  | inr other ↦ omega arith
                ])
            | inr other ↦ let here : f i < suc k = is.small i (omega arith) in rw (around-else f k (f k) i other) (omega arith)
          ];
      apart =
          λ i j low lower same.
          elim (cases_eq (f i) k) [
            | inl met ↦
                elim (cases_eq (f j) k) [
                  | inl met_too ↦ is.apart i j (omega arith) (omega arith) (met ∙ sym met_too)
                  | inr other ↦
                      let there : f k ≡ f j = rw (around-met f k (f k) i met, around-else f k (f k) j other) at same in
                      let one : k ≡ j = is.apart k j (omega arith) (omega arith) there in
                      absurd (omega arith)
                ]
            | inr other ↦
                elim (cases_eq (f j) k) [
                  | inl met ↦
                      let there : f i ≡ f k = rw (around-else f k (f k) i other, around-met f k (f k) j met) at same in
                      let one : i ≡ k = is.apart i k (omega arith) (omega arith) there in
                      absurd (omega arith)
                  | inr other_too ↦
                      is.apart i j (omega arith) (omega arith) (rw (around-else f k (f k) i other, around-else f k (f k) j other_too) at same)
                ]
          ];
    }

-- a number that the map meets
pub record IsMet (m : ℕ) (f : ℕ → ℕ) (s : ℕ) : Type 0 where
  pub from : ℕ
  pub low : from < m
  pub met : f from ≡ s

-- Plan: the last number goes to one number; the others meet all others, but where one of them met the last in place of
-- where the last went.
pub meets_all : (m : ℕ) (f : ℕ → ℕ) → IsApart m f → (s : ℕ) → s < m → IsMet m f s
meets_all zero f is s low = absurd (omega arith)
meets_all (suc k) f is s low =
    elim (cases_eq s (f k)) [
      | inl last ↦ record { from = k; low = omega arith; met = sym last }
      | inr other ↦
          elim (cases_eq s k) [
            | inl top ↦
                let room : f k < suc k = is.small k (omega arith) in
                let below : f k < k = omega arith in
                let at = meets_all k (around f k (f k)) (shorter k f is) (f k) below in
                elim (cases_eq (f at.from) k) [
                  | inl met ↦ record { from = at.from; low = (let less = at.low in omega arith); met = met ∙ sym top }
                  | inr apart ↦
                      let less = at.low in
                      let here : f at.from ≡ f k = sym (around-else f k (f k) at.from apart) ∙ at.met in
                      let one : at.from ≡ k = is.apart at.from k (omega arith) (omega arith) here in
                      absurd (omega arith)
                ]
            | inr inner ↦
                let at = meets_all k (around f k (f k)) (shorter k f is) s (omega arith) in
                elim (cases_eq (f at.from) k) [
                  | inl met ↦ absurd (other (sym at.met ∙ around-met f k (f k) at.from met))
                  | inr apart ↦
                      record { from = at.from; low = (let less = at.low in omega arith); met = sym (around-else f k (f k) at.from apart) ∙ at.met }
                ]
          ]
    ]
