-- What stands in a list that is joined from two, or mapped, and what stands before what
use Rattle.std.proofs.Common.{◌≡◌, ◌⊎◌, inl, inr, List, [], ◌∷◌, ◌++◌, map, refl, ap}
use Rattle.scq_hist.specs.Exports.{StandsIn, Distinct}
use Rattle.scq_order.specs.Exports.{StandsBefore}

pub in_front : {X : Type 0} (xs ys : List X) (x : X) → StandsIn xs x → StandsIn (xs ++ ys) x
in_front {X} [] ys x h = absurd h
in_front {X} (z ∷ zs) ys x (inl e) = inl e
in_front {X} (z ∷ zs) ys x (inr h) = inr (in_front zs ys x h)

pub in_back : {X : Type 0} (xs ys : List X) (x : X) → StandsIn ys x → StandsIn (xs ++ ys) x
in_back {X} [] ys x h = h
in_back {X} (z ∷ zs) ys x h = inr (in_back zs ys x h)

pub in_either : {X : Type 0} (xs ys : List X) (x : X) → StandsIn (xs ++ ys) x → StandsIn xs x ⊎ StandsIn ys x
in_either {X} [] ys x h = inr h
in_either {X} (z ∷ zs) ys x (inl e) = inl (inl e)
in_either {X} (z ∷ zs) ys x (inr h) = elim (in_either zs ys x h) [ inl a ↦ inl (inr a) | inr b ↦ inr b ]

pub before_in_front : {X : Type 0} (xs ys : List X) (x y : X) → StandsBefore xs x y → StandsBefore (xs ++ ys) x y
before_in_front {X} [] ys x y h = absurd h
before_in_front {X} (z ∷ zs) ys x y (inl w) = inl (w.0, in_front zs ys y w.1)
before_in_front {X} (z ∷ zs) ys x y (inr h) = inr (before_in_front zs ys x y h)

pub before_in_back : {X : Type 0} (xs ys : List X) (x y : X) → StandsBefore ys x y → StandsBefore (xs ++ ys) x y
before_in_back {X} [] ys x y h = h
before_in_back {X} (z ∷ zs) ys x y h = inr (before_in_back zs ys x y h)

pub front_before_back : {X : Type 0} (xs ys : List X) (x y : X) → StandsIn xs x → StandsIn ys y → StandsBefore (xs ++ ys) x y
front_before_back {X} [] ys x y h k = absurd h
front_before_back {X} (z ∷ zs) ys x y (inl e) k = inl (e, in_back zs ys y k)
front_before_back {X} (z ∷ zs) ys x y (inr h) k = inr (front_before_back zs ys x y h k)

-- one element more
pub before_pushed : {X : Type 0} (xs : List X) (x a b : X) → StandsBefore (xs ++ x ∷ []) a b → StandsBefore xs a b ⊎ (StandsIn xs a × (x ≡ b))
before_pushed {X} [] x a b (inl w) = absurd w.1
before_pushed {X} [] x a b (inr h) = absurd h
before_pushed {X} (z ∷ zs) x a b (inl w) = elim (in_either zs (x ∷ []) b w.1) [
  | inl h ↦ inl (inl (w.0, h))
  | inr h ↦ elim h [ inl e ↦ inr (inl w.0, e) | inr k ↦ absurd k ]
]
before_pushed {X} (z ∷ zs) x a b (inr h) = elim (before_pushed zs x a b h) [ inl k ↦ inl (inr k) | inr k ↦ inr (inr k.0, k.1) ]

pub in_pushed : {X : Type 0} (xs : List X) (x y : X) → StandsIn (xs ++ x ∷ []) y → StandsIn xs y ⊎ (x ≡ y)
in_pushed xs x y h = elim (in_either xs (x ∷ []) y h) [ inl a ↦ inl a | inr b ↦ elim b [ inl e ↦ inr e | inr k ↦ absurd k ] ]

pub distinct_both : {X : Type 0} (xs ys : List X) → Distinct xs → Distinct ys → ((x : X) → StandsIn xs x → ¬ StandsIn ys x) → Distinct (xs ++ ys)
distinct_both {X} [] ys d e apart = e
distinct_both {X} (z ∷ zs) ys d e apart = (
  λ h. elim (in_either zs ys z h) [ inl a ↦ d.0 a | inr b ↦ apart z (inl refl) b ],
  distinct_both zs ys d.1 e (λ x h. apart x (inr h)),
)

pub mapped_in : {X Y : Type 0} (f : X → Y) (xs : List X) (x : X) → StandsIn xs x → StandsIn (map f xs) (f x)
mapped_in {X} {Y} f [] x h = absurd h
mapped_in {X} {Y} f (z ∷ zs) x (inl e) = inl (ap f e)
mapped_in {X} {Y} f (z ∷ zs) x (inr h) = inr (mapped_in f zs x h)

pub record IsMapped {X Y : Type 0} (f : X → Y) (xs : List X) (y : Y) : Type 0 where
  pub x : X
  pub is_in : StandsIn xs x
  pub is : f x ≡ y

pub in_mapped : {X Y : Type 0} (f : X → Y) (xs : List X) (y : Y) → StandsIn (map f xs) y → IsMapped f xs y
in_mapped {X} {Y} f [] y h = absurd h
in_mapped {X} {Y} f (z ∷ zs) y (inl e) = record { x = z; is_in = inl refl; is = e }
in_mapped {X} {Y} f (z ∷ zs) y (inr h) = let r = in_mapped f zs y h in record { x = r.x; is_in = inr r.is_in; is = r.is }

pub mapped_before : {X Y : Type 0} (f : X → Y) (xs : List X) (x y : X) → StandsBefore xs x y → StandsBefore (map f xs) (f x) (f y)
mapped_before {X} {Y} f [] x y h = absurd h
mapped_before {X} {Y} f (z ∷ zs) x y (inl w) = inl (ap f w.0, mapped_in f zs y w.1)
mapped_before {X} {Y} f (z ∷ zs) x y (inr h) = inr (mapped_before f zs x y h)
