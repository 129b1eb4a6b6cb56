-- The new passes of a queue, by their numbers.
use Rattle.std.proofs.Common.{◌≡◌, ◌∙◌, refl, sym, ap, inl, inr, arith, zero, suc, ℕ, ◌<◌, List, [], ◌∷◌, ◌++◌, length, get_or}
use Rattle.std.proofs.lemmas.Bool.{cases_eq}
use Rattle.std.proofs.lemmas.List.{length-append, get_or_append_left, get_or_push}
use Rattle.scq_band.specs.Exports.{Identity}
use Rattle.scq_queue.specs.Exports.{PassStanding, first_pass, first_passes}

module _ {B : Type 0} (queue : Identity B) where
  pub first-length : (n : ℕ) → length (first_passes queue n) ≡ n
  first-length zero = refl
  first-length (suc n) = omega (arith, length-append (first_passes queue n) (first_pass queue n ∷ []), first-length n)

  -- the pass of each number
  pub first-at : (n k : ℕ) (d : PassStanding B) → k < n → get_or (first_passes queue n) k d ≡ first_pass queue k
  first-at zero k d less = absurd (omega arith)
  first-at (suc n) k d less = elim (cases_eq k n) [
    | inl same ↦
        ap (λ j. get_or (first_passes queue n ++ first_pass queue n ∷ []) j d) same
        ∙ get_or_push (first_passes queue n) (first_pass queue n) d n (first-length n)
        ∙ ap (first_pass queue) (sym same)
    | inr apart ↦
        get_or_append_left (first_passes queue n) (first_pass queue n ∷ []) d k (omega (arith, first-length n)) ∙ first-at n k d (omega arith)
  ]

  -- the pass behind so many
  pub pass-at : (n : ℕ) (front rest : List (PassStanding B)) (p : PassStanding B) → front ++ p ∷ rest ≡ first_passes queue n
      → p ≡ first_pass queue (length front)
  pass-at n front rest p are =
      let long = ap length are in
      let within : length front < n = omega (arith, long, first-length n, length-append front (p ∷ rest)) in
      sym (at-front front) ∙ ap (λ l. get_or l (length front) p) are ∙ first-at n (length front) p within
    where
      at-front : (xs : List (PassStanding B)) → get_or (xs ++ p ∷ rest) (length xs) p ≡ p
      at-front [] = refl
      at-front (x ∷ xs) = at-front xs
