-- Files dealt to workers. What all workers have is what there was: the lists of the files of one worker after another are the lists of
-- the files in their order, in some order; and lists for the files of each worker are those of one list for each file.
use Rattle.std.proofs.Common.{◌≡◌, ◌≢◌, refl, sym, ◌∙◌, ap, subst, arith, true, false, zero, suc, ℕ, ◌+◌, ◌-◌, ◌%◌, ◌<◌, ◌≤◌, Bool, List, [], ◌∷◌, ◌++◌, map}
use Rattle.std.specs.Prelude.{flat_map, if◌then◌else◌, ◌==◌}
use Rattle.std.specs.List.{AllZip}
use Rattle.std.specs.List.Sorted.{IsPermutation}
use Rattle.std.proofs.lemmas.List.{append_assoc}
use Rattle.std.proofs.lemmas.List.Sorted.{IsPermutation-refl, IsPermutation-trans, IsPermutation-append_left, IsPermutation-append_right, IsPermutation-append_comm}
use Rattle.scq_files.specs.Exports.{is_of, files_of, own_of, OfEachFile}

-- numbers from this one on, so many
abbrev pub upto : ℕ → ℕ → List ℕ
upto from zero = []
upto from (suc count) = from ∷ upto (from + 1) count

-- what two functions make of numbers that are all others than one
others-same : {A : Type 0} (f g : ℕ → List A) (j from count : ℕ) → j < from → ((w : ℕ) → j ≢ w → g w ≡ f w)
    → flat_map g (upto from count) ≡ flat_map f (upto from count)
others-same f g j from zero less same = refl
others-same f g j from (suc count) less same =
    let here : g from ≡ f from = same from (λ e. absurd (omega (arith, e))) in
    let rest = others-same f g j (from + 1) count (omega arith) same in
    rw (here, rest) refl

-- x, y, z as y, x, z
swapped : {A : Type 0} (x y z : List A) → IsPermutation (x ++ (y ++ z)) (y ++ (x ++ z))
swapped x y z =
    subst (λ l. IsPermutation l (y ++ (x ++ z))) (append_assoc x y z)
    (subst (IsPermutation ((x ++ y) ++ z)) (append_assoc y x z) (IsPermutation-append_left z (x ++ y) (y ++ x) (IsPermutation-append_comm x y)))

-- a block in front of one of several lists
block-first : {A : Type 0} (f g : ℕ → List A) (x : List A) (j from count : ℕ) → from ≤ j → j < from + count → g j ≡ x ++ f j → ((w : ℕ) → j ≢ w → g w ≡ f w)
    → IsPermutation (x ++ flat_map f (upto from count)) (flat_map g (upto from count))
block-first f g x j from zero low high here same = absurd (omega arith)
block-first {A} f g x j from (suc count) low high here same =
    at (j == from) refl (λ above. block-first f g x j (from + 1) count above (omega arith) here same)
  where
    at : (b : Bool) → (j == from) ≡ b → (from + 1 ≤ j → IsPermutation (x ++ flat_map f (upto (from + 1) count)) (flat_map g (upto (from + 1) count)))
        → IsPermutation (x ++ flat_map f (upto from (suc count))) (flat_map g (upto from (suc count)))
    at true e again =
        let is : j ≡ from = grind arith in
        let first : g from ≡ x ++ f from = subst (λ w. g w ≡ x ++ f w) is here in
        let rest = others-same f g j (from + 1) count (omega (arith, is)) same in
        let whole : x ++ flat_map f (upto from (suc count)) ≡ flat_map g (upto from (suc count)) =
        sym (append_assoc x (f from) (flat_map f (upto (from + 1) count))) ∙ ap (λ l. l ++ flat_map f (upto (from + 1) count)) (sym first)
        ∙ ap (λ l. g from ++ l) (sym rest) in
        subst (IsPermutation (x ++ flat_map f (upto from (suc count)))) whole (IsPermutation-refl _)
    at false e again =
        let other : j ≢ from = grind arith in
        let first : g from ≡ f from = same from other in
        let rest = again (omega (arith, low, other)) in
        let last : List A = flat_map g (upto (from + 1) count) in
        subst (λ l. IsPermutation (x ++ flat_map f (upto from (suc count))) (l ++ last)) (sym first)
        (IsPermutation-trans (x ++ (f from ++ flat_map f (upto (from + 1) count))) (f from ++ (x ++ flat_map f (upto (from + 1) count))) (f from ++ last)
        (swapped x (f from) (flat_map f (upto (from + 1) count)))
        (IsPermutation-append_right (f from) (x ++ flat_map f (upto (from + 1) count)) last rest))

mod-below : (n workers : ℕ) → 0 < workers → n % workers < workers
mod-below n workers some = grind arith

-- whose file it is
is-own : (workers file : ℕ) → is_of workers ((file - 1) % workers) file ≡ true
is-own workers file = grind arith

not-own : (workers file w : ℕ) → (file - 1) % workers ≢ w → is_of workers w file ≡ false
not-own workers file w other = grind arith

-- the lists of all workers' files are those of the files, in some order
pub all-dealt : {A : Type 0} (workers file : ℕ) (given : List (List A)) → 0 < workers
    → IsPermutation (flat_map (λ x. x) given) (flat_map (λ w. own_of workers w file given) (upto 0 workers))
all-dealt workers file [] some = subst (IsPermutation []) (sym (none (upto 0 workers))) (IsPermutation-refl []) where
  none : {A : Type 0} (ws : List ℕ) → flat_map (λ (w : ℕ). own_of {A = A} workers w file []) ws ≡ []
  none [] = refl
  none (w ∷ ws) = none ws
all-dealt {A} workers file (x ∷ xs) some =
    let j = (file - 1) % workers in
    let f : ℕ → List A = λ w. own_of workers w (file + 1) xs in
    let g : ℕ → List A = λ w. own_of workers w file (x ∷ xs) in
    let mine : g j ≡ x ++ f j = rw (is-own workers file) refl in
    let not_mine : (w : ℕ) → j ≢ w → g w ≡ f w = λ w other. rw (not-own workers file w other) refl in
    IsPermutation-trans (x ++ flat_map (λ x. x) xs) (x ++ flat_map f (upto 0 workers)) (flat_map g (upto 0 workers))
    (IsPermutation-append_right x (flat_map (λ x. x) xs) (flat_map f (upto 0 workers)) (all-dealt workers (file + 1) xs some))
    (block-first f g x j 0 workers (omega arith) (omega (arith, mod-below (file - 1) workers some)) mine not_mine)

-- the second of each pair
abbrev pub seconds : {Y : Type 0} → List (ℕ × Y) → List Y
seconds ps = map (λ (p : ℕ × _). p.1) ps

-- a list for each worker whose members go with its files comes from one whose members go with the files
pub collected : {X Y : Type 0} (R : ℕ × X → Y → Type 0) (workers file : ℕ) (xs : List X) (lists : ℕ → List Y) → 0 < workers
    → ((w : ℕ) → w < workers → AllZip R (files_of workers w file xs) (lists w))
    → (given : List Y) × OfEachFile R file xs given × ((w : ℕ) → w < workers → seconds (files_of workers w file given) ≡ lists w)
collected {X} {Y} R workers file [] lists some each = ([], tt, λ w less. none (lists w) (each w less)) where
  none : (l : List Y) → AllZip R [] l → [] ≡ l
  none [] h = refl
  none (y ∷ l) h = absurd h
collected {X} {Y} R workers file (x ∷ xs) lists some each =
    first (λ lists each. collected R workers (file + 1) xs lists some each) (lists j) refl
    (subst (λ b. AllZip R (if b then (file, x) ∷ files_of workers j (file + 1) xs else files_of workers j (file + 1) xs) (lists j))
    (is-own workers file) (each j (mod-below (file - 1) workers some)))
  where
    j : ℕ
    j = (file - 1) % workers

    rest : List Y → ℕ → List Y
    rest ys w = if j == w then ys else lists w

    first : ((lists : ℕ → List Y) → ((w : ℕ) → w < workers → AllZip R (files_of workers w (file + 1) xs) (lists w))
        → (given : List Y) × OfEachFile R (file + 1) xs given × ((w : ℕ) → w < workers → seconds (files_of workers w (file + 1) given) ≡ lists w))
        → (l : List Y) → lists j ≡ l → AllZip R ((file, x) ∷ files_of workers j (file + 1) xs) l
        → (given : List Y) × OfEachFile R file (x ∷ xs) given × ((w : ℕ) → w < workers → seconds (files_of workers w file given) ≡ lists w)
    first again [] is h = absurd h
    first again (y ∷ ys) is h =
        let more = again (rest ys) (λ w less. still w less (j == w) refl) in
        (y ∷ more.0, (h.0, more.1), λ w less. back w less more.0 (more.2 w less) (j == w) refl)
      where
        still : (w : ℕ) → w < workers → (b : Bool) → (j == w) ≡ b → AllZip R (files_of workers w (file + 1) xs) (if j == w then ys else lists w)
        still w less true e =
            let same : j ≡ w = grind arith in
            rw e (subst (λ v. AllZip R (files_of workers v (file + 1) xs) ys) same h.1)
        still w less false e =
            let other : j ≢ w = grind arith in
            rw e (subst (λ b. AllZip R (if b then (file, x) ∷ files_of workers w (file + 1) xs else files_of workers w (file + 1) xs) (lists w))
            (not-own workers file w other) (each w less))

        back : (w : ℕ) → w < workers → (given : List Y) → seconds (files_of workers w (file + 1) given) ≡ (if j == w then ys else lists w) → (b : Bool)
            → (j == w) ≡ b
            → seconds (files_of workers w file (y ∷ given)) ≡ lists w
        back w less given so true e =
            let same : j ≡ w = grind arith in
            let mine : is_of workers w file ≡ true = e in
            rw mine (ap (λ l. y ∷ l) (so ∙ rw e refl) ∙ sym is ∙ ap lists same)
        back w less given so false e =
            let not_mine : is_of workers w file ≡ false = e in
            rw not_mine (so ∙ rw e refl)
