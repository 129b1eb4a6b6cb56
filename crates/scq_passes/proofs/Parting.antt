-- Lists of what stands at some things, as the things are popped one by one off their reverse.
use Rattle.std.proofs.Common.{◌≡◌, ◌∙◌, sym, ap, subst, List, [], ◌∷◌, ◌++◌, map, reverse, append_assoc}
use Rattle.std.specs.Prelude.{flat_map}
use Rattle.std.specs.List.{All}
use Rattle.std.proofs.lemmas.List.{reverse-append}
use Rattle.std.proofs.lemmas.List.Elements.{All-cons}

-- the last of some things is the first of their reverse
pub turned : {X : Type 0} (old rest : List X) (x : X) → old ≡ rest ++ x ∷ [] → reverse old ≡ x ∷ reverse rest
turned old rest x is = ap reverse is ∙ reverse-append rest (x ∷ [])

-- one more is popped: one by one, and with several at each
pub popped : {X Y : Type 0} (f : X → Y) (done : List Y) (whole : List Y) (old rest : List X) (x : X) → done ++ map f (reverse old) ≡ whole
    → old ≡ rest ++ x ∷ []
    → (done ++ f x ∷ []) ++ map f (reverse rest) ≡ whole
popped f done whole old rest x so is =
    append_assoc done (f x ∷ []) (map f (reverse rest)) ∙ ap (λ l. done ++ map f l) (sym (turned old rest x is)) ∙ so

pub popped-flat : {X Y : Type 0} (f : X → List Y) (done : List Y) (whole : List Y) (old rest : List X) (x : X) → done ++ flat_map f (reverse old) ≡ whole
    → old ≡ rest ++ x ∷ []
    → (done ++ f x) ++ flat_map f (reverse rest) ≡ whole
popped-flat f done whole old rest x so is =
    append_assoc done (f x) (flat_map f (reverse rest)) ∙ ap (λ l. done ++ flat_map f l) (sym (turned old rest x is)) ∙ so

-- what holds of the others holds with the popped one
pub all-turned : {X : Type 0} (P : X → Type 0) (old rest : List X) (x : X) → old ≡ rest ++ x ∷ [] → P x → All P (reverse rest) → All P (reverse old)
all-turned P old rest x is here each = subst (All P) (sym (turned old rest x is)) (All-cons P x (reverse rest) here each)
