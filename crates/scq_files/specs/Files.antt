-- Which files are a worker's. Files are numbered from 1, workers from 0.
use Rattle.std.specs.Prelude.{ℕ, ◌+◌, ◌-◌, ◌%◌, Bool, ◌==◌, List, [], ◌∷◌, flat_map, if◌then◌else◌}

-- whether a file is this worker's
abbrev pub is_of : ℕ → ℕ → ℕ → Bool
is_of workers worker file = (file - 1) % workers == worker

-- of files of which the first has this number those of a worker, in order, each with its number
abbrev pub files_of : {A : Type 0} → ℕ → ℕ → ℕ → List A → List (ℕ × A)
files_of workers worker file [] = []
files_of workers worker file (x ∷ xs) =
    if is_of workers worker file then (file, x) ∷ files_of workers worker (file + 1) xs
    else files_of workers worker (file + 1) xs

-- the members of the lists of a worker's files, one file behind the other
abbrev pub own_of : {A : Type 0} → ℕ → ℕ → ℕ → List (List A) → List A
own_of workers worker file lists =
    flat_map (λ (f : ℕ × List _). f.1) (files_of workers worker file lists)

-- so it is of each file, of which the first has this number, and of what stands for it in another
-- list
abbrev pub OfEachFile : {X Y : Type 0} → (ℕ × X → Y → Type 0) → ℕ → List X → List Y → Type 0
OfEachFile R file [] [] = Unit {0}
OfEachFile R file (x ∷ xs) (y ∷ ys) = R (file, x) y × OfEachFile R (file + 1) xs ys
OfEachFile R file _ _ = ⊥
