-- A list with one behind it, split at a member; and what stands before the first member that passes a test.
use Rattle.std.proofs.Common.{◌≡◌, refl, sym, ◌∙◌, ap, List, [], ◌∷◌, ◌++◌, Bool, true, false, not, cond, ◌||◌, ◌⊎◌, inl, inr, ⊎_elim}
use Rattle.std.specs.List.{list_any, before_first}
use Rattle.std.proofs.lemmas.List.Sums.{take_while-cons}

-- the member stands in the first list, or in the second
pub split-append : {A : Type 0} (xs ys before after : List A) (d : A) → xs ++ ys ≡ before ++ d ∷ after
    → ((mid : List A) × (xs ≡ before ++ d ∷ mid) × (after ≡ mid ++ ys)) ⊎ ((front : List A) × (before ≡ xs ++ front) × (ys ≡ front ++ d ∷ after))
split-append [] ys before after d e = inr (before, refl, e)
split-append (x ∷ xs) ys [] after d e =
    let first : x ≡ d = cc in
    let rest : xs ++ ys ≡ after = cc in
    inl (xs, ap (λ y. y ∷ xs) first, sym rest)
split-append (x ∷ xs) ys (b ∷ before) after d e =
    let first : x ≡ b = cc in
    let rest : xs ++ ys ≡ before ++ d ∷ after = cc in
    ⊎_elim (λ (h : (mid : List _) × (xs ≡ before ++ d ∷ mid) × (after ≡ mid ++ ys)).
    let is : xs ≡ before ++ d ∷ h.0 = h.1 in
    let whole : x ∷ xs ≡ b ∷ (before ++ d ∷ h.0) = cc in
    inl (h.0, whole, h.2))
    (λ (h : (front : List _) × (before ≡ xs ++ front) × (ys ≡ front ++ d ∷ after)).
    let is : before ≡ xs ++ h.0 = h.1 in
    let whole : b ∷ before ≡ x ∷ (xs ++ h.0) = cc in
    inr (h.0, whole, h.2))
    (split-append xs ys before after d rest)

parts : (a b : Bool) → (a || b) ≡ false → (a ≡ false) × (b ≡ false)
parts true b none = absurd (cc)
parts false b none = (refl, none)

-- what stands before the first that passes, one by one
before-cons : {A : Type 0} (p : A → Bool) (x : A) (xs : List A) (b : Bool) → p x ≡ b → before_first p (x ∷ xs) ≡ cond (not b) (x ∷ before_first p xs) []
before-cons p x xs b is = take_while-cons (λ y. not (p y)) x xs ∙ ap (λ c. cond (not c) (x ∷ before_first p xs) []) is

-- nothing of what follows one that does
pub before-led : {A : Type 0} (p : A → Bool) (xs rest : List A) (c : A) → p c ≡ true → before_first p (xs ++ c ∷ rest) ≡ before_first p xs
before-led p [] rest c passes = before-cons p c rest true passes
before-led p (x ∷ xs) rest c passes =
    before-cons p x (xs ++ c ∷ rest) (p x) refl ∙ ap (λ ys. cond (not (p x)) (x ∷ ys) []) (before-led p xs rest c passes) ∙ sym (before-cons p x xs (p x) refl)

-- and all where none does
pub before-none : {A : Type 0} (p : A → Bool) (xs : List A) → list_any p xs ≡ false → before_first p xs ≡ xs
before-none p [] none = refl
before-none p (x ∷ xs) none =
    let apart = parts (p x) (list_any p xs) none in
    before-cons p x xs false apart.0 ∙ ap (λ ys. x ∷ ys) (before-none p xs apart.1)

-- of a list with one behind it: the first list's where one passes there, else all of it and what stands before in the second
pub before-some : {A : Type 0} (p : A → Bool) (xs ys : List A) → list_any p xs ≡ true → before_first p (xs ++ ys) ≡ before_first p xs
before-some p [] ys some_ = absurd (cc)
before-some p (x ∷ xs) ys some_ = by (p x) refl (λ more. before-some p xs ys more) where
  by : (b : Bool) → p x ≡ b → (list_any p xs ≡ true → before_first p (xs ++ ys) ≡ before_first p xs) → before_first p ((x ∷ xs) ++ ys) ≡ before_first p (x ∷ xs)
  by true is rest = before-cons p x (xs ++ ys) true is ∙ sym (before-cons p x xs true is)
  by false is rest =
      let more : list_any p xs ≡ true = rw is at some_ in
      before-cons p x (xs ++ ys) false is ∙ ap (λ l. x ∷ l) (rest more) ∙ sym (before-cons p x xs false is)

pub before-all : {A : Type 0} (p : A → Bool) (xs ys : List A) → list_any p xs ≡ false → before_first p (xs ++ ys) ≡ xs ++ before_first p ys
before-all p [] ys none = refl
before-all p (x ∷ xs) ys none =
    let apart = parts (p x) (list_any p xs) none in
    before-cons p x (xs ++ ys) false apart.0 ∙ ap (λ l. x ∷ l) (before-all p xs ys apart.1)
