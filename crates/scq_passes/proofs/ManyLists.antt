-- Members of lists, and the lists of several, one behind the other.
use Rattle.std.proofs.Common.{◌≡◌, refl, sym, ◌∙◌, ap, subst, arith, zero, suc, ℕ, ◌+◌, List, [], ◌∷◌, ◌++◌, map, get_or, ⊎_elim, inl, inr, Some}
use Rattle.std.specs.Prelude.{slice_get, flat_map, sum_by}
use Rattle.std.specs.List.{All, AllPairs, Contains}
use Rattle.std.specs.List.Sorted.{IsPermutation}
use Rattle.std.proofs.lemmas.List.{append_assoc, map-append}
use Rattle.std.proofs.lemmas.List.Elements.{Contains-append_cases, Contains-append_left, Contains-append_right}
use Rattle.std.proofs.lemmas.List.Sorted.{IsPermutation-refl, IsPermutation-trans, IsPermutation-append, IsPermutation-append_left, IsPermutation-append_right, IsPermutation-append_comm}
use Rattle.std.proofs.lemmas.List.Sums.{sum_by-append, sum_by-cons}
use Rattle.std.proofs.lemmas.Option.{slice_get_cases, slice_get_within, slice_get-get_or, get_or_from_slice_get}
use Rattle.scq_collect.proofs.Distinct.{pairs-append}
use Rattle.scq_collect.proofs.Orders.{contains-first, contains-more}

-- a member at a position, and where a member stands
pub stands-at : {A : Type 0} (xs : List A) (x : A) (k : ℕ) → slice_get xs k ≡ Some x → Contains xs x
stands-at xs x k is = (k, slice_get_within xs k x is, get_or_from_slice_get xs k x x is)

pub found-at : {A : Type 0} (xs : List A) (x : A) → Contains xs x → (k : ℕ) × (slice_get xs k ≡ Some x)
found-at xs x (k, within, is) = (k, slice_get-get_or xs k x within ∙ ap Some is)

-- what holds of all holds of the one at an index
pub one-of-all : {X : Type 0} (P : X → Type 0) (xs : List X) (i : ℕ) (x : X) → All P xs → slice_get xs i ≡ Some x → P x
one-of-all P xs i x all is =
    elim (slice_get_cases xs i).1 [
      | inl at ↦
          let same : at.0 ≡ x = let first = at.2 in cc in
          subst P (at.3 ∙ same) (all i at.0 at.1)
      | inr past ↦ let none = past.1 in absurd (cc)
    ]

-- a member of the list of one of several stands in the list of all
pub in-all : {P A : Type 0} (f : P → List A) (ps : List P) (k : ℕ) (p : P) (m : A) → slice_get ps k ≡ Some p → Contains (f p) m → Contains (flat_map f ps) m
in-all f [] k p m at has = absurd (cc)
in-all f (q ∷ ps) zero p m at has =
    let same : q ≡ p = cc in
    Contains-append_left (f q) (flat_map f ps) m (subst (λ r. Contains (f r) m) (sym same) has)
in-all f (q ∷ ps) (suc k) p m at has = Contains-append_right (f q) (flat_map f ps) m (in-all f ps k p m at has)

-- and the other way round
pub from-all : {P A : Type 0} (f : P → List A) (ps : List P) (m : A) → Contains (flat_map f ps) m
    → (k : ℕ) × (p : P) × (slice_get ps k ≡ Some p) × Contains (f p) m
from-all f [] m (k, within, is) = absurd (omega arith)
from-all f (q ∷ ps) m has =
    ⊎_elim (λ (h : Contains (f q) m). (zero, q, refl, h))
    (λ (h : Contains (flat_map f ps) m). let more = from-all f ps m h in (suc more.0, more.1, more.2, more.3))
    (Contains-append_cases (f q) (flat_map f ps) m has)

-- where no two places of the lists of several have members that are alike, none of the list of all are
pub apart-all : {P A : Type 0} (f : P → List A) (Alike : A → A → Type 0) (ps : List P)
    → ((a x b y : ℕ) (p q : P) (m n : A) → slice_get ps a ≡ Some p → slice_get (f p) x ≡ Some m → slice_get ps b ≡ Some q → slice_get (f q) y ≡ Some n
    → Alike m n → (a ≡ b) × (x ≡ y))
    → AllPairs (λ m n. Alike m n → ⊥) (flat_map f ps)
apart-all f Alike [] once = λ i j d less within. absurd (omega arith)
apart-all f Alike (p ∷ ps) once =
    pairs-append (λ m n. Alike m n → ⊥) (f p) (flat_map f ps)
    (λ i j d less within alike.
    let same = once zero i zero j p p (get_or (f p) i d) (get_or (f p) j d) refl (slice_get-get_or (f p) i d (omega arith)) refl
    (slice_get-get_or (f p) j d within) alike in
    absurd (omega arith))
    (apart-all f Alike ps (λ a x b y q r m n at_q at_m at_r at_n alike.
    let same = once (suc a) x (suc b) y q r m n at_q at_m at_r at_n alike in
    (omega arith, same.1)))
    (λ m n inside behind alike.
    let here = found-at (f p) m inside in
    let there = from-all f ps n behind in
    let at = found-at (f there.1) n there.3 in
    let same = once zero here.0 (suc there.0) at.0 p there.1 m n refl here.1 there.2 at.1 alike in
    absurd (omega arith))

-- as many of all lists pass a test as of each together
pub count-all : {P A : Type 0} (f : P → List A) (test : A → ℕ) (ps : List P) → sum_by test (flat_map f ps) ≡ sum_by (λ p. sum_by test (f p)) ps
count-all f test [] = refl
count-all f test (p ∷ ps) =
    sum_by-append test (f p) (flat_map f ps) ∙ ap (λ n. sum_by test (f p) + n) (count-all f test ps) ∙ sym (sum_by-cons (λ q. sum_by test (f q)) p ps)

-- of lists made of the members of a list
pub flat-map : {W A C : Type 0} (h : A → C) (f : W → List A) (ws : List W) → flat_map (λ w. map h (f w)) ws ≡ map h (flat_map f ws)
flat-map h f [] = refl
flat-map h f (w ∷ ws) = ap (λ l. map h (f w) ++ l) (flat-map h f ws) ∙ sym (map-append h (f w) (flat_map f ws))

-- a, b, c, d as a, c, b, d
crossed : {A : Type 0} (a b c d : List A) → IsPermutation ((a ++ b) ++ (c ++ d)) ((a ++ c) ++ (b ++ d))
crossed a b c d =
    let one : (a ++ b) ++ (c ++ d) ≡ a ++ ((b ++ c) ++ d) = append_assoc a b (c ++ d) ∙ ap (λ l. a ++ l) (sym (append_assoc b c d)) in
    let two : a ++ ((c ++ b) ++ d) ≡ (a ++ c) ++ (b ++ d) = ap (λ l. a ++ l) (append_assoc c b d) ∙ sym (append_assoc a c (b ++ d)) in
    subst (λ l. IsPermutation l ((a ++ c) ++ (b ++ d))) (sym one)
    (subst (IsPermutation (a ++ ((b ++ c) ++ d))) two
    (IsPermutation-append_right a ((b ++ c) ++ d) ((c ++ b) ++ d) (IsPermutation-append_left d (b ++ c) (c ++ b) (IsPermutation-append_comm b c))))

-- of several, one behind the other: where each one's list is two lists in some order, so are all
pub together : {W A : Type 0} (f g h : W → List A) (ws : List W) → ((w : W) → Contains ws w → IsPermutation (f w) (g w ++ h w))
    → IsPermutation (flat_map f ws) (flat_map g ws ++ flat_map h ws)
together f g h [] each = IsPermutation-refl []
together f g h (w ∷ ws) each =
    let rest = together f g h ws (λ v has. each v (contains-more w v ws has)) in
    IsPermutation-trans (f w ++ flat_map f ws) ((g w ++ h w) ++ (flat_map g ws ++ flat_map h ws)) ((g w ++ flat_map g ws) ++ (h w ++ flat_map h ws))
    (IsPermutation-append (f w) (g w ++ h w) (flat_map f ws) (flat_map g ws ++ flat_map h ws) (each w (contains-first w ws)) rest)
    (crossed (g w) (h w) (flat_map g ws) (flat_map h ws))
