-- The text that is written of members where they lie is that of the members.
use Rattle.std.proofs.Common.{◌≡◌, ◌∙◌, refl, sym, ap, ℕ, ◌+◌, List, [], ◌∷◌, ◌++◌, map, length, Bor}
use Rattle.std.specs.Prelude.{flat_map, sum_by, codes, decimal}
use Rattle.std.proofs.lemmas.List.{length-map}
use Rattle.std.proofs.lemmas.List.Folds.{flat_map-map}
use Rattle.std.proofs.lemmas.List.Sums.{sum_by-cons}
use Rattle.scq_stages.specs.declared.finished.Finished.{Finished}
use Rattle.scq_stages.specs.Exports.{Handled, handled_line, text_of_handled, without_way}

sums-map : {A B : Type 0} (f : B → ℕ) (g : A → B) (xs : List A) → sum_by f (map g xs) ≡ sum_by (λ x. f (g x)) xs
sums-map f g [] = refl
sums-map f g (x ∷ xs) =
    sum_by-cons f (g x) (map g xs) ∙ ap (λ n. f (g x) + n) (sums-map f g xs) ∙ sym (sum_by-cons (λ x. f (g x)) x xs)

-- a member with its position
abbrev pub Positioned : Type 0
Positioned = ℕ × ℕ × Bor Finished

pub text-of : (members : List Positioned) (text lines : List ℕ) (count bytes : ℕ)
    → text ≡ lines ++ (codes "total " ++ decimal count ++ codes " " ++ decimal bytes ++ codes "\n")
    → lines ≡ flat_map (λ m. handled_line (without_way m.2.now)) members → count ≡ length members
    → bytes ≡ sum_by (λ m. length m.2.now.payload) members
    → text ≡ text_of_handled (map without_way (map (λ m. m.2.now) members))
text-of members text lines count bytes whole line_are count_is bytes_are =
    let now : Positioned → Finished = λ m. m.2.now in
    let all : List Handled = map without_way (map now members) in
    let line_all : lines ≡ flat_map handled_line all =
    line_are ∙ sym (flat_map-map (λ (f : Finished). handled_line (without_way f)) now members)
    ∙ sym (flat_map-map handled_line without_way (map now members)) in
    let count_all : count ≡ length all = count_is ∙ sym (length-map members now) ∙ sym (length-map (map now members) without_way) in
    let bytes_all : bytes ≡ sum_by (λ (r : Handled). length r.payload) all =
    bytes_are ∙ sym (sums-map (λ (f : Finished). length f.payload) now members)
    ∙ sym (sums-map (λ (r : Handled). length r.payload) without_way (map now members)) in
    whole ∙ ap (λ (l : List ℕ). l ++ (codes "total " ++ decimal count ++ codes " " ++ decimal bytes ++ codes "\n")) line_all
    ∙ ap (λ n. flat_map handled_line all ++ (codes "total " ++ decimal n ++ codes " " ++ decimal bytes ++ codes "\n")) count_all
    ∙ ap (λ n. flat_map handled_line all ++ (codes "total " ++ decimal (length all) ++ codes " " ++ decimal n ++ codes "\n")) bytes_all
