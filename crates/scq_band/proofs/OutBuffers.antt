-- A buffer is looked for among those that are out, each the pair of its index and itself or a value that has such a pair, and taken
-- from them.
use Rattle.std.proofs.Common.{◌≡◌, ℕ, suc, ◌+◌, ◌<◌, List, [], ◌∷◌, map, length, refl, sym, ◌∙◌, ap, subst, inl, inr, arith, ne_eqb}
use Rattle.std.specs.Prelude.{Some, slice_get, slice_index_or}
use Rattle.std.specs.List.{swap_remove}
use Rattle.std.specs.List.Sorted.{IsPermutation}
use Rattle.std.proofs.lemmas.Bool.{cases_eq}
use Rattle.std.proofs.lemmas.List.{get_or_default}
use Rattle.std.proofs.lemmas.List.Sorted.{IsPermutation-map, IsPermutation-swap_remove}
use Rattle.std.proofs.lemmas.Option.{slice_get-get_or}
use Rattle.scq_law.specs.Exports.{times}
use Rattle.scq_band.specs.Exports.{indices_of}

module _ {B T : Type 0} (pair : T → ℕ × B) where
  -- the buffer at a place was taken
  pub found : (xs : List T) (at i : ℕ) (o r : T) → at < length xs → o ≡ slice_index_or xs at o → (pair o).0 ≡ i → r ≡ slice_index_or xs at r
      → IsPermutation (map pair xs) ((i, (pair r).1) ∷ map pair (swap_remove xs at r))
  found xs at i o r low is same its =
      let one : slice_index_or xs at r ≡ slice_index_or xs at o = get_or_default xs at r o low in
      let both : r ≡ o = its ∙ one ∙ sym is in
      subst (λ (j : ℕ). IsPermutation (map pair xs) ((j, (pair r).1) ∷ map pair (swap_remove xs at r))) (ap (λ (q : T). (pair q).0) both ∙ same)
      (IsPermutation-map pair xs (r ∷ swap_remove xs at r) (IsPermutation-swap_remove xs at r low its))

  -- it stands at none of the places up to one
  pub none_up_to : (xs : List T) (at i : ℕ) (o : T) → at < length xs → o ≡ slice_index_or xs at o → ((pair o).0 ≡ i → ⊥)
      → ((k : ℕ) (q : T) → k < at → slice_get xs k ≡ Some q → (pair q).0 ≡ i → ⊥) → (k : ℕ) (q : T) → k < at + 1 → slice_get xs k ≡ Some q
      → (pair q).0 ≡ i → ⊥
  none_up_to xs at i o low is other before k q less at_k same =
      elim (cases_eq k at) [
        | inl here ↦
            let there : slice_get xs at ≡ Some o = slice_get-get_or xs at o low ∙ ap (λ (p : T). Some p) (sym is) in
            let mine : slice_get xs at ≡ Some q = ap (slice_get xs) (sym here) ∙ at_k in
            let one : o ≡ q = cc in
            other (ap (λ (p : T). (pair p).0) one ∙ same)
        | inr apart ↦ before k q (omega arith) at_k same
      ]

  -- so it stands nowhere
  pub none_of : (xs : List T) (i : ℕ) → ((k : ℕ) (q : T) → k < length xs → slice_get xs k ≡ Some q → (pair q).0 ≡ i → ⊥)
      → times i (indices_of (map pair xs)) ≡ 0
  none_of [] i none = refl
  none_of (x ∷ xs) i none =
      rw (ne_eqb (pair x).0 i (λ e. none 0 x (omega arith) refl e))
      (let rest = none_of xs i (λ k q low at same. none (suc k) q (omega arith) at same) in omega arith)
