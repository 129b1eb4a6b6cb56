-- Members of the lists of all workers are apart, where what is shown of them ascends.
use Rattle.std.proofs.Common.{◌≡◌, ◌∙◌, sym, ap, arith, true, false, Bool, ℕ, List, map, get_or}
use Rattle.std.specs.List.{IsDistinct}
use Rattle.std.specs.List.Sorted.{IsPermutation}
use Rattle.std.proofs.lemmas.Bool.Decides.{nat_tests}
use Rattle.std.proofs.lemmas.List.{get_or-map, length-map}
use Rattle.std.proofs.lemmas.List.Sorted.{IsPermutation-sym}
use Rattle.std.proofs.lemmas.Map.Keys.{IsDistinct-IsPermutation, apart_from_distinct}
use Rattle.scq_collect.specs.Exports.{AreApart}
use Rattle.scq_collect.proofs.Orders.{Ascends, ascends-distinct, is_position, is_position-flip}

-- a position is itself
is_position-itself : (p : ℕ × ℕ × ℕ) → is_position p p ≡ true
is_position-itself p = grind (arith, nat_tests)

-- members of which these are shown, in some order, are apart: no two of these have one position
pub apart-shown : {A B : Type 0} (position : B → ℕ × ℕ × ℕ) (shown : A → B) (members : List A) (others : List B) → Ascends position others
    → IsPermutation (map shown members) others → AreApart (λ m. position (shown m)) members
apart-shown {A} {B} position shown members others up same i j d less within alike =
    let test : B → B → Bool = λ x y. is_position (position x) (position y) in
    let distinct : IsDistinct test (map shown members) =
    IsDistinct-IsPermutation test (λ x y. is_position-flip (position x) (position y)) others (map shown members)
    (IsPermutation-sym (map shown members) others same) (ascends-distinct position others up) in
    let long = length-map members shown in
    let apart = apart_from_distinct test (map shown members) i j (shown d) distinct less (omega arith) in
    let first = get_or-map shown members i d (shown d) (omega arith) in
    let second = get_or-map shown members j d (shown d) within in
    let there : test (shown (get_or members i d)) (shown (get_or members j d)) ≡ false =
    ap (λ a. test a (shown (get_or members j d))) (sym first) ∙ ap (test (get_or (map shown members) i (shown d))) (sym second) ∙ apart in
    let itself : test (shown (get_or members i d)) (shown (get_or members j d)) ≡ true =
    ap (λ p. is_position (position (shown (get_or members i d))) p) (sym alike) ∙ is_position-itself (position (shown (get_or members i d))) in
    absurd (cc)
