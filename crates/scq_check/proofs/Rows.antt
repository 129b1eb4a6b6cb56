-- A list with one number more, which is kept of a position each
use Rattle.std.proofs.Common.{◌≡◌, ℕ, ◌+◌, ◌<◌, inl, inr, List, [], ◌∷◌, ◌++◌, length, slice_index, sym, ap, ◌∙◌, arith}
use Rattle.std.proofs.Math.ListN.{get_or-append}
use Rattle.std.proofs.lemmas.Bool.{cases_eq}
use Rattle.std.proofs.lemmas.List.{get_or_push}

pub row_more : (xs : List ℕ) (x m : ℕ) (f : ℕ → ℕ) → length xs ≡ m → ((k : ℕ) → k < m → slice_index xs k ≡ f k) → x ≡ f m
    → (k : ℕ) → k < m + 1 → slice_index (xs ++ x ∷ []) k ≡ f k
row_more xs x m f many old here k lt =
    elim (cases_eq k m) [
      | inl e ↦ get_or_push xs x 0 k (many ∙ sym e) ∙ here ∙ ap f (sym e)
      | inr ne ↦ get_or-append xs (x ∷ []) 0 k (omega arith) ∙ old k (omega arith)
    ]
