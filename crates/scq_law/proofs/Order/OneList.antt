-- Two orders of one run and ring are equal: both list the same members, each after those of earlier keys.
use Rattle.std.proofs.Common.{◌≡◌, ℕ, suc, ◌<◌, inl, inr, List, [], ◌∷◌, refl, ap, sym, ◌∙◌, subst, arith}
use Rattle.std.specs.Prelude.{Some, slice_get}
use Rattle.std.specs.List.{Contains}
use Rattle.std.proofs.lemmas.Option.{slice_get-get_or}
use Rattle.scq_law.specs.declared.ordered.Ordered.{Ordered}
use Rattle.scq_law.specs.Exports.{Key, IsEarlier, HasKey, of_nothing, of_put, of_get, by_done, by_got, by_nothing, IsLinearization}
use Rattle.scq_law.specs.Order.{of_opening}
use Rattle.scq_law.specs.RunSteps.{Run}
use Rattle.scq_law.proofs.Order.Decisions.{stands_in}
use Rattle.scq_law.proofs.Order.KeyLemmas.{before_apart}
use Rattle.scq_law.proofs.Order.PlainReplies.{In, in_later, in_first, in_cases, in_none}

module _ (run : Run) (r : ℕ) where
  -- each member has a key, which comes before those behind it
  pub data Ascends : List Ordered → Type 0 where
    none : Ascends []
    one : {y : Ordered} {rest : List Ordered} (f : Key) → HasKey run r y f
        → ((z : Ordered) (g : Key) → In rest z → HasKey run r z g → IsEarlier f g) → Ascends rest → Ascends (y ∷ rest)

  ascends : (xs : List Ordered) → ((z : Ordered) → In xs z → (f : Key) × HasKey run r z f)
      → ((a b : ℕ) (x y : Ordered) (f g : Key) → a < b → slice_get xs a ≡ Some x → slice_get xs b ≡ Some y → HasKey run r x f → HasKey run r y g → IsEarlier f g)
      → Ascends xs
  ascends [] keyed sorted = none
  ascends (y ∷ rest) keyed sorted =
      let mine = keyed y (in_first y rest) in
      one mine.0 mine.1 (λ z g at has. sorted 0 (suc at.0) y z mine.0 g (omega arith) refl at.1 mine.1 has)
      (ascends rest (λ z at. keyed z (in_later y rest z at)) (λ a b x z f g less first second. sorted (suc a) (suc b) x z f g (omega arith) first second))

  -- what stands behind a member isn't it
  behind : (y : Ordered) (rest : List Ordered) → Ascends (y ∷ rest) → In rest y → ⊥
  behind y rest (one f has first later) at = let self = first y f at has in before_apart f f self self

  -- with the same members, lists that ascend are equal
  same_list : (xs ys : List Ordered) → Ascends xs → Ascends ys → ((z : Ordered) → In xs z → In ys z) → ((z : Ordered) → In ys z → In xs z) → xs ≡ ys
  same_list [] [] up down to back = refl
  same_list [] (y ∷ ys) up down to back = absurd (in_none y (back y (in_first y ys)))
  same_list (x ∷ xs) [] up down to back = absurd (in_none x (to x (in_first x xs)))
  same_list (x ∷ xs) (y ∷ ys) (one f has first up) (one g own least down) to back =
      let head : x ≡ y = fronts in
      ap (λ (z : Ordered). z ∷ xs) head ∙ ap (λ (zs : List Ordered). y ∷ zs)
      (same_list xs ys up down
      (λ z at.
      elim (in_cases y ys z (to z (in_later x xs z at))) [
        | inl same ↦ absurd (behind x xs (one f has first up) (subst (In xs) (same ∙ sym head) at))
        | inr later ↦ later
      ])
      (λ z at.
      elim (in_cases x xs z (back z (in_later y ys z at))) [
        | inl same ↦ absurd (behind y ys (one g own least down) (subst (In ys) (same ∙ head) at))
        | inr later ↦ later
      ]))
    where
      fronts : x ≡ y
      fronts =
          elim (in_cases y ys x (to x (in_first x xs))) [
            | inl same ↦ same
            | inr later ↦
                elim (in_cases x xs y (back y (in_first y ys))) [
                  | inl same ↦ sym same
                  | inr also ↦ absurd (before_apart f g (first y g also own) (least x f later has))
                ]
          ]

-- a member of one order is one of another
moved_over : (run : Run) (r : ℕ) (xs ys : List Ordered) → IsLinearization run r xs → IsLinearization run r ys → (z : Ordered) → In xs z → In ys z
moved_over run r xs ys first second z at =
    let mine = first.only z (stands_in xs at.0 z at.1) in
    found (contained z mine.0 mine.1)
  where
    contained : (y : Ordered) (f : Key) → HasKey run r y f → Contains ys y
    contained y f (of_opening j ring low) = second.openings j ring low
    contained y f (of_nothing s c d ended is) = second.calls s c (by_nothing ended)
    contained y f (of_put s c p point w ended is) = second.calls s c (by_done p w ended)
    contained y f (of_get s c p point w ended is) = second.calls s c (by_got p w ended)

    found : Contains ys z → In ys z
    found has = (has.0, slice_get-get_or ys has.0 z has.1 ∙ ap Some has.2)

pub one_list : (run : Run) (r : ℕ) (xs ys : List Ordered) → IsLinearization run r xs → IsLinearization run r ys → xs ≡ ys
one_list run r xs ys first second =
    same_list run r xs ys (up xs first) (up ys second) (moved_over run r xs ys first second) (moved_over run r ys xs second first)
  where
    up : (zs : List Ordered) → IsLinearization run r zs → Ascends run r zs
    up zs lin = ascends run r zs (λ z at. lin.only z (stands_in zs at.0 z at.1)) lin.sorted
