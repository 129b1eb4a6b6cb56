-- The lines of totals, topic by topic.
use Rattle.std.proofs.Common.{◌≡◌, ◌∙◌, refl, sym, ap, append_assoc, arith, ℕ, ◌+◌, List, [], ◌∷◌, ◌++◌, map}
use Rattle.std.specs.Prelude.{flat_map}
use Rattle.std.specs.List.{range_with_len}
use Rattle.std.proofs.lemmas.Grind.{flat_map-append}
use Rattle.std.proofs.lemmas.List.{append-nil}
use Rattle.std.proofs.lemmas.List.Folds.{flat_map-map}
use Rattle.std.proofs.lemmas.List.FromFn.{map-range_with_len_more}

-- one number more
pub lines-more : (f : ℕ → List ℕ) (n : ℕ) → flat_map f (range_with_len 0 (n + 1)) ≡ flat_map f (range_with_len 0 n) ++ f n
lines-more f n =
    let same : (x : ℕ) → ℕ = λ x. x in
    sym (flat_map-map f same (range_with_len 0 (n + 1)))
    ∙ ap (flat_map f) (map-range_with_len_more same 0 n n (omega arith))
    ∙ flat_map-append f (map same (range_with_len 0 n)) (n ∷ [])
    ∙ ap (λ (front : List ℕ). front ++ flat_map f (n ∷ [])) (flat_map-map f same (range_with_len 0 n))
    ∙ ap (λ (last : List ℕ). flat_map f (range_with_len 0 n) ++ last) (append-nil (f n))

-- the parts of a line that were pushed one behind the other, two of them with what stands before each
pub pushed-line : (old a b c d e f g one two three four five : List ℕ) → one ≡ old ++ a → two ≡ one ++ b → three ≡ two ++ c ++ d → four ≡ three ++ e ++ f
    → five ≡ four ++ g → five ≡ old ++ (a ++ b ++ c ++ d ++ e ++ f ++ g)
pushed-line old a b c d e f g one two three four five to_one to_two to_three to_four to_five =
    rw (to_five, to_four, to_three, to_two, to_one) (simp append_assoc refl)
