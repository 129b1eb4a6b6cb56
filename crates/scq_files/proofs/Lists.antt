-- Lists in which one element is replaced, and lists that were mapped.
use Rattle.std.proofs.Common.{◌≡◌, ◌≢◌, ◌∙◌, refl, sym, subst, inl, inr, arith, ℕ, ◌<◌, List, [], ◌∷◌, ◌++◌, length, reverse, take, drop, get_or, set, map, ap, get_or-set_same, get_or-set_other}
use Rattle.std.proofs.lemmas.Bool.{cases_eq}
use Rattle.std.proofs.lemmas.List.{map-set, map-append, reverse-append, set-get_or, get_or-map, length-append, get_or_append_left, get_or_push, take-append-le, take_all}
use Rattle.std.specs.Prelude.{slice_index_or}
use Rattle.std.specs.List.{All}

-- what holds of the new element there and of the others where they were holds everywhere
pub set-each : {X : Type 0} (P : ℕ → X → Type 0) (xs : List X) (at : ℕ) (y d : X) → at < length xs → P at y
    → ((k : ℕ) → k < length xs → k ≢ at → P k (slice_index_or xs k d))
    → (k : ℕ) → k < length xs → P k (slice_index_or (set xs at y) k d)
set-each P xs at y d within here others k less = elim (cases_eq k at) [
  | inl same ↦ subst (λ j. P j (get_or (set xs at y) j d)) (sym same) (subst (P at) (sym (get_or-set_same xs at y d within)) here)
  | inr apart ↦ subst (P k) (sym (get_or-set_other xs at k y d apart)) (others k less apart)
]

-- what holds of all holds of those in front, and of the last
pub all-front : {X : Type 0} (P : X → Type 0) (xs : List X) (y : X) → All P (xs ++ y ∷ []) → All P xs
all-front P xs y all k d less = subst P (get_or_append_left xs (y ∷ []) d k less) (all k d (omega (arith, less, length-append xs (y ∷ []))))

pub all-last : {X : Type 0} (P : X → Type 0) (xs : List X) (y : X) → All P (xs ++ y ∷ []) → P y
all-last P xs y all = subst P (get_or_push xs y y (length xs) refl) (all (length xs) y (omega (arith, length-append xs (y ∷ []))))

-- what a whole slice was written back as
pub written-back : {X : Type 0} (n : ℕ) (new old : List X) → length new ≡ n → take n (new ++ drop (length new) old) ≡ new
written-back n new old long = take-append-le n new (drop (length new) old) (omega (arith, long)) ∙ take_all n new (omega (arith, long))

-- a new element that looks as the old one did
pub set-unseen : {X Y : Type 0} (f : X → Y) (xs : List X) (at : ℕ) (y d : X) → at < length xs → f y ≡ f (get_or xs at d) → map f (set xs at y) ≡ map f xs
set-unseen f xs at y d within same =
    map-set f xs at y ∙ ap (set (map f xs) at) (same ∙ sym (get_or-map f xs at d (f d) within)) ∙ set-get_or (map f xs) at (f d)

-- a list that is mapped twice, or turned
pub map-map : {X Y Z : Type 0} (f : Y → Z) (g : X → Y) (xs : List X) → map f (map g xs) ≡ map (λ x. f (g x)) xs
map-map f g [] = refl
map-map f g (x ∷ xs) = ap (λ l. f (g x) ∷ l) (map-map f g xs)

pub map-reverse : {X Y : Type 0} (f : X → Y) (xs : List X) → map f (reverse xs) ≡ reverse (map f xs)
map-reverse f [] = refl
map-reverse f (x ∷ xs) =
    ap (map f) (reverse-append (x ∷ []) xs) ∙ map-append f (reverse xs) (x ∷ []) ∙ ap (λ l. l ++ f x ∷ []) (map-reverse f xs)
    ∙ sym (reverse-append (f x ∷ []) (map f xs))
