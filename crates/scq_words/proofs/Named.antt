-- The first file without a name.
use Rattle.std.proofs.Common.{◌≡◌, ◌∙◌, refl, sym, ap, ℕ, ◌+◌, not, cond, eqb, ltb, List, [], ◌∷◌, length, map, Some, None}
use Rattle.std.specs.List.{position, position_or_len}
use Rattle.std.specs.Borrow.{Bor}
use Rattle.std.proofs.lemmas.List.{length-map}

-- behind references or not
pub position-names : (files : List (Bor (List ℕ)))
    → position (λ name. eqb (length name.now) 0) files ≡ position (λ name. eqb (length name) 0) (map (λ name. name.now) files)
position-names files = ap (λ n. cond (ltb n (length files)) (Some n) None) (sym (same files))
    ∙ ap (λ len. cond (ltb (position_or_len (λ name. eqb (length name) 0) (map (λ name. name.now) files)) len)
    (Some (position_or_len (λ name. eqb (length name) 0) (map (λ name. name.now) files))) None) (sym (length-map files (λ name. name.now)))
  where
    same : (files : List (Bor (List ℕ))) → position_or_len (λ name. eqb (length name) 0) (map (λ name. name.now) files)
        ≡ position_or_len (λ name. eqb (length name.now) 0) files
    same [] = refl
    same (name ∷ more) = ap (λ n. cond (not (eqb (length name.now) 0)) (1 + n) 0) (same more)
