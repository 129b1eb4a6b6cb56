-- The hand of a seat whose buffers are all lifted, as a value comes to it and goes.
use Rattle.std.proofs.Common.{◌≡◌, ◌≢◌, ℕ, zero, suc, List, [], ◌∷◌, ◌++◌, refl, ap, inl, inr, arith, eq-eqb, ne_eqb}
use Rattle.std.specs.Prelude.{Option, Some, None}
use Rattle.std.specs.List.{Contains}
use Rattle.std.proofs.lemmas.Bool.{cases_eq}
use Rattle.std.proofs.lemmas.List.Elements.{Contains-append_right}
use Rattle.scq_band.specs.Exports.{in_hand, without_index, with_buffer, indices_of, lifted_of}
use Rattle.scq_queue.specs.Exports.{without, all_lifted}

-- what stands in a longer list is its first, or stands in the rest
contains_cases : (x i : ℕ) (xs : List ℕ) → Contains (x ∷ xs) i → x ≢ i → Contains xs i
contains_cases x i xs (zero, low, is) other = absurd (other is)
contains_cases x i xs (suc k, low, is) other = (k, omega arith, is)

-- the last of a list stands in it
pub contains_last : (xs : List ℕ) (i : ℕ) → Contains (xs ++ i ∷ []) i
contains_last xs i = Contains-append_right xs (i ∷ []) i (0, omega arith, refl)

pub indices-all_lifted : (B : Type 0) (held : List ℕ) → indices_of (all_lifted {B = B} held) ≡ held
indices-all_lifted B [] = refl
indices-all_lifted B (i ∷ held) = ap (λ (l : List ℕ). i ∷ l) (indices-all_lifted B held)

pub lifted-all_lifted : (B : Type 0) (held : List ℕ) → lifted_of (all_lifted {B = B} held) ≡ held
lifted-all_lifted B [] = refl
lifted-all_lifted B (i ∷ held) = ap (λ (l : List ℕ). i ∷ l) (lifted-all_lifted B held)

-- a value that is held is lifted
pub held_lifted : (B : Type 0) (held : List ℕ) (i : ℕ) → Contains held i → in_hand (all_lifted {B = B} held) i ≡ Some None
held_lifted B [] i there = absurd (let low = there.1 in omega (arith, low))
held_lifted B (j ∷ held) i there =
    elim (cases_eq j i) [
      | inl same ↦ rw (eq-eqb j i same) refl
      | inr other ↦ rw (ne_eqb j i other) (held_lifted B held i (contains_cases j i held there other))
    ]

-- what is in no hand is not held
pub not_held : (B : Type 0) (held : List ℕ) (i : ℕ) → in_hand (all_lifted {B = B} held) i ≡ None → Contains held i → ⊥
not_held B held i none there = let is = held_lifted B held i there in cc

module _ {B : Type 0} where
  -- an index that was put on a ring has left the hand
  pub lifted_and_put : (held : List ℕ) (i : ℕ) → without_index i (all_lifted {B = B} held) ≡ all_lifted (without i held)
  lifted_and_put [] i = refl
  lifted_and_put (j ∷ held) i =
      elim (cases_eq j i) [
        | inl same ↦ rw (eq-eqb j i same) (lifted_and_put held i)
        | inr other ↦ rw (ne_eqb j i other) (ap (λ (l : List (ℕ × Option B)). (j, None) ∷ l) (lifted_and_put held i))
      ]

  -- a buffer that came to a hand, and is lifted
  pub came_in_hand : (hand : List (ℕ × Option B)) (i : ℕ) (b : Option B) → in_hand hand i ≡ None → in_hand (hand ++ (i, b) ∷ []) i ≡ Some b
  came_in_hand [] i b none = rw (eq-eqb i i refl) refl
  came_in_hand (x ∷ xs) i b none =
      elim (cases_eq x.0 i) [
        | inl same ↦ let here : Some x.1 ≡ None = rw (eq-eqb x.0 i same) at none in absurd (cc)
        | inr other ↦
            let rest : in_hand xs i ≡ None = rw (ne_eqb x.0 i other) at none in
            rw (ne_eqb x.0 i other) (came_in_hand xs i b rest)
      ]

  pub came_and_lifted : (held : List ℕ) (i : ℕ) (b : Option B) → with_buffer i None (all_lifted held ++ (i, b) ∷ []) ≡ all_lifted (held ++ i ∷ [])
  came_and_lifted [] i b = rw (eq-eqb i i refl) refl
  came_and_lifted (j ∷ held) i b =
      elim (cases_eq j i) [
        | inl same ↦ rw (eq-eqb j i same) (ap (λ (l : List (ℕ × Option B)). (j, None) ∷ l) (came_and_lifted held i b))
        | inr other ↦ rw (ne_eqb j i other) (ap (λ (l : List (ℕ × Option B)). (j, None) ∷ l) (came_and_lifted held i b))
      ]
