-- Members chunk by chunk.
use Rattle.std.proofs.Common.{◌≡◌, ◌∙◌, refl, sym, ap, arith, ℕ, ◌+◌, ◌*◌, List, [], ◌∷◌, ◌++◌, length, take, drop, get_or, append_assoc}
use Rattle.std.specs.Prelude.{flat_map}
use Rattle.std.proofs.Math.Seq.{take-add}
use Rattle.std.proofs.lemmas.Grind.{flat_map-append}
use Rattle.std.proofs.lemmas.List.{append-nil}

-- the members of a front of the chunks, and of the front with one chunk more
pub chunk-more : {A : Type 0} (xs : List A) (size n : ℕ) → take (n * size) xs ++ take size (drop (n * size) xs) ≡ take ((n + 1) * size) xs
chunk-more xs size n =
    let next : (n + 1) * size ≡ n * size + size = omega arith in
    sym (ap (λ k. take k xs) next ∙ take-add (n * size) size xs)

-- what stands behind a front of a list
pub behind-front : {A : Type 0} (ys zs : List A) (x d : A) → get_or (ys ++ x ∷ zs) (length ys) d ≡ x
behind-front [] zs x d = refl
behind-front (y ∷ ys) zs x d = behind-front ys zs x d

pub nothing-left : {A : Type 0} (xs : List A) → length xs ≡ 0 → xs ≡ []
nothing-left [] none = refl
nothing-left (x ∷ xs) none = absurd (omega arith)

-- what is made of one element more
pub flat-push : {A B : Type 0} (f : A → List B) (xs : List A) (x : A) → flat_map f (xs ++ x ∷ []) ≡ flat_map f xs ++ f x
flat-push f xs x = flat_map-append f xs (x ∷ []) ∙ ap (λ (last : List _). flat_map f xs ++ last) (append-nil (f x))

pub flat-more : {A B : Type 0} (f : A → List B) (xs new : List A) (x : A) (rest : List B) → new ≡ xs ++ x ∷ []
    → flat_map f new ++ rest ≡ flat_map f xs ++ (f x ++ rest)
flat-more f xs new x rest is =
    ap (λ (l : List _). flat_map f l ++ rest) is ∙ ap (λ (l : List _). l ++ rest) (flat-push f xs x) ∙ append_assoc (flat_map f xs) (f x) rest
