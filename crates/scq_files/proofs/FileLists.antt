-- A list of files in which one was read: the files are the same, and all have given what it gave more.
use Rattle.std.proofs.Common.{◌≡◌, ◌∙◌, refl, sym, ap, arith, zero, suc, ℕ, ◌<◌, ◌≤◌, List, [], ◌∷◌, ◌++◌, length, reverse, set}
use Rattle.std.specs.Prelude.{slice_index_or, flat_map}
use Rattle.std.proofs.lemmas.List.{append-nil, reverse-append}
use Rattle.std.proofs.lemmas.Grind.{flat_map-append}
use Rattle.scq_files.specs.Exports.{ids_of, all_given, given_in}
use Rattle.scq_files.specs.declared.own_file.OwnFile.{OwnFile}

-- the first file of a list was read last
given-cons : {S : Type 0} (x : OwnFile S) (xs : List (OwnFile S)) → all_given (x ∷ xs) ≡ all_given xs ++ given_in x.given.value
given-cons x xs =
    ap (flat_map (λ (f : OwnFile _). given_in f.given.value)) (reverse-append (x ∷ []) xs)
    ∙ flat_map-append (λ (f : OwnFile _). given_in f.given.value) (reverse xs) (x ∷ []) ∙ ap (λ l. all_given xs ++ l) (append-nil (given_in x.given.value))

-- where neither a file nor those in front of it have given anything, what it gives comes behind all else
pub given-set : {S : Type 0} (files : List (OwnFile S)) (at : ℕ) (f d : OwnFile S) → at < length files
    → ((k : ℕ) → k ≤ at → given_in (slice_index_or files k d).given.value ≡ []) → all_given (set files at f) ≡ all_given files ++ given_in f.given.value
given-set [] at f d within none = absurd (omega arith)
given-set (x ∷ xs) zero f d within none =
    let nothing : given_in x.given.value ≡ [] = none zero (omega arith) in
    let whole : all_given (x ∷ xs) ≡ all_given xs = given-cons x xs ∙ ap (λ l. all_given xs ++ l) nothing ∙ append-nil (all_given xs) in
    given-cons f xs ∙ ap (λ l. l ++ given_in f.given.value) (sym whole)
given-set (x ∷ xs) (suc at) f d within none =
    let nothing : given_in x.given.value ≡ [] = none zero (omega arith) in
    let whole : all_given (x ∷ xs) ≡ all_given xs = given-cons x xs ∙ ap (λ l. all_given xs ++ l) nothing ∙ append-nil (all_given xs) in
    let rest : all_given (set xs at f) ≡ all_given xs ++ given_in f.given.value = given-set xs at f d (omega arith) (λ k low. none (suc k) (omega arith)) in
    given-cons x (set xs at f) ∙ ap (λ l. all_given (set xs at f) ++ l) nothing ∙ append-nil (all_given (set xs at f)) ∙ rest
    ∙ ap (λ l. l ++ given_in f.given.value) (sym whole)

-- the files are those that they were
pub ids-set : {S : Type 0} (files : List (OwnFile S)) (at : ℕ) (f d : OwnFile S) → at < length files → f.number ≡ (slice_index_or files at d).number
    → f.was.value ≡ (slice_index_or files at d).was.value → ids_of (set files at f) ≡ ids_of files
ids-set [] at f d within number was = absurd (omega arith)
ids-set (x ∷ xs) zero f d within number was = let same : f.number ≡ x.number = number in let one : f.was.value ≡ x.was.value = was in cc
ids-set (x ∷ xs) (suc at) f d within number was = ap (λ l. (x.number, x.was.value) ∷ l) (ids-set xs at f d (omega arith) number was)

-- files that were not read have given nothing
pub given-none : {S : Type 0} (files : List (OwnFile S))
    → ((k : ℕ) (d : OwnFile S) → k < length files → given_in (slice_index_or files k d).given.value ≡ []) → all_given files ≡ []
given-none [] none = refl
given-none (x ∷ xs) none =
    let nothing : given_in x.given.value ≡ [] = none zero x (omega arith) in
    given-cons x xs ∙ ap (λ l. all_given xs ++ l) nothing ∙ append-nil (all_given xs) ∙ given-none xs (λ k d less. none (suc k) d (omega arith))
