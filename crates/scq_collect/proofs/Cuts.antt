-- What holds of all of a list holds of its front and of its end, and what a function makes of a list.
use Rattle.std.proofs.Common.{◌≡◌, ◌∙◌, refl, ap, subst, arith, ℕ, ◌+◌, ◌-◌, ◌<◌, List, [], ◌∷◌, ◌++◌, length, map, get_or}
use Rattle.std.specs.List.{All}
use Rattle.std.proofs.lemmas.List.{get_or-map, get_or-append_right, get_or_append_left, length-append}

pub all-left : {A : Type 0} (P : A → Type 0) (xs ys : List A) → All P (xs ++ ys) → All P xs
all-left P xs ys all k d less = subst P (get_or_append_left xs ys d k less) (all k d (omega (arith, less, length-append xs ys)))

behind-left : {A : Type 0} (xs ys : List A) (k : ℕ) (d : A) → get_or (xs ++ ys) (length xs + k) d ≡ get_or ys k d
behind-left xs ys k d =
    let same : length xs + k - length xs ≡ k = omega arith in
    get_or-append_right xs ys (length xs) (length xs + k) d refl (omega arith) ∙ ap (λ (j : ℕ). get_or ys j d) same

pub all-right : {A : Type 0} (P : A → Type 0) (xs ys : List A) → All P (xs ++ ys) → All P ys
all-right P xs ys all k d less = subst P (behind-left xs ys k d) (all (length xs + k) d (omega (arith, less, length-append xs ys)))

-- the value at a place of what a function makes of a list
pub read-map : {A B : Type 0} (f : A → B) (xs : List A) (n : ℕ) (e : B) → n < length xs → (d : A) × (get_or (map f xs) n e ≡ f (get_or xs n d))
read-map f [] n e less = absurd (omega arith)
read-map f (x ∷ xs) n e less = (x, get_or-map f (x ∷ xs) n x e less)
