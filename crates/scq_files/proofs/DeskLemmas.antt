-- Files on desks: how their numbers and sources go along.
use Rattle.std.proofs.Common.{◌≡◌, ◌≢◌, ◌∙◌, refl, sym, ap, subst, arith, true, false, ℕ, ◌+◌, ◌-◌, ◌%◌, ◌<◌, ◌≤◌, List, [], ◌∷◌, ◌++◌, length, reverse, take, drop, get_or, drop-cons, add-one}
use Rattle.std.specs.Prelude.{slice_index_or}
use Rattle.std.proofs.lemmas.List.{map-append, reverse-append, length-append, length-take-le, take-append-le, take_all, take-take, get_or-take, get_or_push}
use Rattle.scq_files.specs.Exports.{is_of, files_of, AreDealt, ids_of}
use Rattle.scq_files.specs.declared.desk.Desk.{Desk}
use Rattle.scq_files.specs.declared.own_file.OwnFile.{OwnFile}

-- one file in front of others: it is this worker's, or another's
pub own-first : {A : Type 0} (workers w at : ℕ) (x : A) (xs : List A) → at % workers ≡ w
    → reverse (files_of workers w (at + 1) (x ∷ xs)) ≡ reverse (files_of workers w (at + 1 + 1) xs) ++ (at + 1, x) ∷ []
own-first workers w at x xs same =
    rw (mine at w workers same) (reverse-append ((at + 1, x) ∷ []) (files_of workers w (at + 1 + 1) xs)) where
      mine : (at w workers : ℕ) → at % workers ≡ w → is_of workers w (at + 1) ≡ true
      mine at w workers same = let e : at + 1 - 1 ≡ at = omega arith in rw (e, same) (grind arith)

pub other-first : {A : Type 0} (workers w at : ℕ) (x : A) (xs : List A) → at % workers ≢ w
    → files_of workers w (at + 1) (x ∷ xs) ≡ files_of workers w (at + 1 + 1) xs
other-first workers w at x xs apart = rw (others at w workers apart) refl where
  others : (at w workers : ℕ) → at % workers ≢ w → is_of workers w (at + 1) ≡ false
  others at w workers apart = let e : at + 1 - 1 ≡ at = omega arith in rw e (grind arith)

pub drop-at : {A : Type 0} (xs : List A) (at : ℕ) (d : A) → at < length xs → drop at xs ≡ get_or xs at d ∷ drop (at + 1) xs
drop-at xs at d within = rw (add-one, drop-cons xs at d) refl

-- a front of a list, taken apart at its last element
pub taken-apart : {A : Type 0} (src front : List A) (x : A) (n at : ℕ) → take n src ≡ front ++ x ∷ [] → at + 1 ≡ n → n ≤ length src
    → (front ≡ take at src) × (drop at src ≡ x ∷ drop (at + 1) src)
taken-apart src front x n at is next within =
    let long : length front ≡ at = omega (arith, ap length is, length-append front (x ∷ []), length-take-le n src within) in
    let all : take at (take n src) ≡ front =
    ap (take at) is ∙ take-append-le at front (x ∷ []) (omega arith) ∙ take_all at front (omega arith) in
    let last : get_or src at x ≡ x = sym (get_or-take n src at x (omega arith)) ∙ ap (λ xs. get_or xs at x) is ∙ get_or_push front x x at long in
    (sym all ∙ take-take at n src (omega arith), drop-at src at x (omega arith) ∙ ap (λ y. y ∷ drop (at + 1) src) last)

-- a file is laid on the desk of its worker
pub laid : {S : Type 0} (workers w at : ℕ) (files : List (OwnFile S)) (f : OwnFile S) (x : S) (rest : List S) → at % workers ≡ w → f.number ≡ at + 1
    → f.was.value ≡ x
    → ids_of files ≡ reverse (files_of workers w (at + 1 + 1) rest) → ids_of (files ++ f ∷ []) ≡ reverse (files_of workers w (at + 1) (x ∷ rest))
laid workers w at files f x rest same number was are =
    map-append (λ (g : OwnFile _). (g.number, g.was.value)) files (f ∷ []) ∙ ap (λ front. front ++ (f.number, f.was.value) ∷ []) are
    ∙ ap (λ n. reverse (files_of workers w (at + 1 + 1) rest) ++ (n, f.was.value) ∷ []) number
    ∙ ap (λ y. reverse (files_of workers w (at + 1 + 1) rest) ++ (at + 1, y) ∷ []) was
    ∙ sym (own-first workers w at x rest same)

-- where a file is left, the desk of its worker has one
pub desk-empty : {S : Type 0} (workers w at : ℕ) (xs : List S) → 0 < length xs → at % workers ≡ w → [] ≡ reverse (files_of workers w (at + 1) xs) → ⊥
desk-empty workers w at [] some same none = absurd (omega arith)
desk-empty workers w at (x ∷ xs) some same none =
    let n = ap length (none ∙ own-first workers w at x xs same) in
    omega (arith, length-append (reverse (files_of workers w (at + 1 + 1) xs)) ((at + 1, x) ∷ []))

-- desks whose files are the same are dealt the same
pub still-dealt : {W S : Type 0} (file : ℕ) (sources : List S) (old new : List (Desk W S)) → length new ≡ length old
    → ((w : ℕ) (d : Desk W S) → w < length old → ids_of (slice_index_or new w d).files.items ≡ ids_of (slice_index_or old w d).files.items)
    → AreDealt file sources old → AreDealt file sources new
still-dealt file sources old new long same dealt w d less =
    let within : w < length old = omega (arith, less, long) in
    subst (λ m. ids_of (slice_index_or new w d).files.items ≡ reverse (files_of m w file sources)) (sym long) (same w d within ∙ dealt w d within)
