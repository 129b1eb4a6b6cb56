-- How the ends of workers are known by what each was given; and lists in which one element after the other is replaced.
use Rattle.std.proofs.Common.{ap, zero, suc, refl, ◌≤◌, ◌≡◌, ◌≢◌, ◌∙◌, sym, subst, arith, ℕ, ◌+◌, ◌<◌, List, [], ◌∷◌, ◌++◌, length, map, reverse, set, get_or, length-set, get_or-set_other, append_assoc}
use Rattle.std.specs.List.{AllWithin, AllZip}
use Rattle.std.specs.Prelude.{sum_by}
use Rattle.std.proofs.lemmas.List.Sums.{sum_by-append}
use Rattle.std.proofs.lemmas.List.Elements.{AllWithin-more_set}
use Rattle.std.proofs.Math.Seq.{map-set_same}
use Rattle.scq_passes.proofs.Parting.{turned}

-- lists in which one element after the other is replaced by one that f can't tell from what it was
pub record Replaced {X Y : Type 0} (P Q : X → Type 0) (f : X → Y) (all : List Y) (xs : List X) (i : ℕ) : Type 0 where
  pub same : map f xs ≡ all
  pub done : AllWithin Q xs 0 i
  pub rest : AllWithin P xs i (length xs)

pub replaced-next : {X Y : Type 0} (P Q : X → Type 0) (f : X → Y) (all : List Y) (xs : List X) (i : ℕ) (y d : X)
    → Replaced P Q f all xs i → i < length xs → f y ≡ f (get_or xs i d) → Q y → Replaced P Q f all (set xs i y) (i + 1)
replaced-next P Q f all xs i y d was less same holds =
    record {
      same = map-set_same f xs i y d same ∙ was.same;
      done = AllWithin-more_set xs i y less Q was.done holds;
      rest = λ k e low high.
          let apart : k ≢ i = λ is. omega (arith, is) in
          subst P (sym (get_or-set_other xs i k y e apart)) (was.rest k e (omega arith) (omega (arith, length-set xs i y)));
    }

-- what is known of the ends behind one more of them
pub zipped-next : {X Y Z : Type 0} (R : X → Y → Type 0) (f : Z → X) (all : List X) (old rest : List Z) (z : Z) (ys : List Y) (y : Y)
    → ((more : List Y) → AllZip R (map f (reverse old)) more → AllZip R all (ys ++ more)) → old ≡ rest ++ z ∷ [] → R (f z) y
    → (more : List Y) → AllZip R (map f (reverse rest)) more → AllZip R all ((ys ++ y ∷ []) ++ more)
zipped-next R f all old rest z ys y was is holds more so =
    subst (AllZip R all) (sym (append_assoc ys (y ∷ []) more))
    (was (y ∷ more) (subst (λ l. AllZip R (map f l) (y ∷ more)) (sym (turned old rest z is)) (holds, so)))

-- f of those from an index on, added up
abbrev pub sum_from : {X : Type 0} → (X → ℕ) → ℕ → List X → ℕ
sum_from f zero xs = sum_by f xs
sum_from f (suc i) [] = 0
sum_from f (suc i) (x ∷ xs) = sum_from f i xs

-- one fewer of them, of which another took its place
sum-from-suc : {X : Type 0} (f : X → ℕ) (xs : List X) (i : ℕ) (y d : X) → i < length xs
    → sum_from f i xs ≡ f (get_or xs i d) + sum_from f (suc i) (set xs i y)
sum-from-suc f [] i y d low = absurd (omega arith)
sum-from-suc f (x ∷ xs) zero y d low =
    let one : sum_by f (x ∷ []) ≡ f x = omega arith in
    sum_by-append f (x ∷ []) xs ∙ ap (λ k. k + sum_by f xs) one
sum-from-suc f (x ∷ xs) (suc i) y d low = sum-from-suc f xs i y d (omega arith)

pub sum-from-next : {X : Type 0} (f : X → ℕ) (xs : List X) (i : ℕ) (y d : X) → i < length xs
    → sum_from f i xs ≡ f (get_or xs i d) + sum_from f (i + 1) (set xs i y)
sum-from-next f xs i y d low =
    let next : suc i ≡ i + 1 = omega arith in
    subst (λ k. sum_from f i xs ≡ f (get_or xs i d) + sum_from f k (set xs i y)) next (sum-from-suc f xs i y d low)

-- behind the last there are none
pub sum-from-all : {X : Type 0} (f : X → ℕ) (xs : List X) (i : ℕ) → length xs ≤ i → sum_from f i xs ≡ 0
sum-from-all f [] zero long = refl
sum-from-all f [] (suc i) long = refl
sum-from-all f (x ∷ xs) zero long = absurd (omega arith)
sum-from-all f (x ∷ xs) (suc i) long = sum-from-all f xs i (omega arith)
