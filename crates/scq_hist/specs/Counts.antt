-- At most as many, without numbers; and how many
use Rattle.std.specs.Prelude.{◌≡◌, ℕ, ◌⊎◌, List, [], ◌∷◌, length}

-- A has at most as many members as B: each of A is matched by one of B, and no two by the same
pub record AtMostAsMany {X Y : Type 0} (A : X → Type 0) (B : Y → Type 0) : Type 0 where
  pub partner : (x : X) → A x → Y
  pub into : (x : X) (h : A x) → B (partner x h)
  pub one_to_one : (x y : X) (h : A x) (k : A y) → partner x h ≡ partner y k → x ≡ y

-- x stands in the list
abbrev pub StandsIn : {X : Type 0} → List X → X → Type 0
StandsIn [] x = ⊥
StandsIn (y ∷ ys) x = (y ≡ x) ⊎ StandsIn ys x

-- no two of the list are the same
abbrev pub Distinct : {X : Type 0} → List X → Type 0
Distinct [] = Unit {0}
Distinct (y ∷ ys) = (¬ StandsIn ys y) × Distinct ys

-- A has just c members: those of a list of c different ones
pub record IsCount {X : Type 0} (A : X → Type 0) (c : ℕ) : Type 0 where
  pub members : List X
  pub many : length members ≡ c
  pub sound : (x : X) → StandsIn members x → A x
  pub complete : (x : X) → A x → StandsIn members x
  pub distinct : Distinct members
