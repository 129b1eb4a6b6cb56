-- Answers divided by spans: those of spans that divide all places are all answers, in order where those of each span are.
use Rattle.std.proofs.Common.{◌≡◌, ◌∙◌, refl, sym, ap, subst, inl, inr, arith, true, false, zero, suc, ℕ, ◌+◌, ◌^◌, ◌<◌, ◌≤◌, Bool, List, [], ◌∷◌, ◌++◌, length, map, cond}
use Rattle.std.specs.Prelude.{◌&&◌, flat_map, max, min, nat_le, not, slice_index_or}
use Rattle.std.specs.List.{All, filter}
use Rattle.std.specs.List.Sorted.{IsPermutation}
use Rattle.std.proofs.lemmas.Bool.{and_parts, le-leb, leb-true}
use Rattle.std.proofs.lemmas.Bool.Decides.{nat_tests}
use Rattle.std.proofs.lemmas.List.{append-nil, map-append}
use Rattle.std.proofs.lemmas.List.Elements.{All-append, All-cons, All-filter, All-head, All-nil, All-tail, All-weaker, filter_passes}
use Rattle.std.proofs.lemmas.List.Sorted.{All-permutation, IsPermutation-append, IsPermutation-filter_both, IsPermutation-refl, IsPermutation-trans}
use Rattle.scq_topics.specs.declared.kind.Kind.{Kind}
use Rattle.scq_collect.specs.declared.answered.Answered.{Answered}
use Rattle.scq_collect.specs.declared.spans.Span.{Span}
use Rattle.scq_collect.specs.Exports.{IsCodable, BeginsMessage, PartAnswer, answers_of, joined, messages_in_order, without_way, IsBefore, IsMerged}
use Rattle.scq_collect.specs.Exports.{IsSorted, position_of_part, Answer, AreNext, is_in, place_of, AreTaken, position_of_part_answer}
use Rattle.scq_collect.proofs.Cutting.{cut-between}
use Rattle.scq_collect.proofs.SpotLaws.{merged-answers}

-- what passes a test that none passes, or all do
pub filter-none : {A : Type 0} (test : A → Bool) (xs : List A) → All (λ x. test x ≡ false) xs → filter test xs ≡ []
filter-none test [] none = refl
filter-none {A} test (x ∷ xs) none =
    ap (λ (b : Bool). cond b (x ∷ filter test xs) (filter test xs)) (All-head (λ (x : A). test x ≡ false) x xs none)
    ∙ filter-none test xs (All-tail (λ (x : A). test x ≡ false) x xs none)

pub filter-all : {A : Type 0} (test : A → Bool) (xs : List A) → All (λ x. test x ≡ true) xs → filter test xs ≡ xs
filter-all test [] all = refl
filter-all {A} test (x ∷ xs) all =
    ap (λ (b : Bool). cond b (x ∷ filter test xs) (filter test xs)) (All-head (λ (x : A). test x ≡ true) x xs all)
    ∙ ap (λ (l : List A). x ∷ l) (filter-all test xs (All-tail (λ (x : A). test x ≡ true) x xs all))

-- what passes two tests
filter-twice : {A : Type 0} (p q r : A → Bool) (xs : List A) → ((x : A) → r x ≡ (q x && p x)) → filter p (filter q xs) ≡ filter r xs
filter-twice p q r [] both = refl
filter-twice {A} p q r (x ∷ xs) both =
    let rest : filter p (filter q xs) ≡ filter r xs = filter-twice p q r xs both in
    at (q x) ∙ ap (λ (b : Bool). cond b (x ∷ filter p (filter q xs)) (filter p (filter q xs))) (sym (both x))
    ∙ ap (λ (l : List A). cond (r x) (x ∷ l) l) rest where
      at : (b : Bool) → filter p (cond b (x ∷ filter q xs) (filter q xs)) ≡ cond (b && p x) (x ∷ filter p (filter q xs)) (filter p (filter q xs))
      at true = refl
      at false = refl

split : {A : Type 0} (p q r s : A → Bool) (xs : List A) → ((x : A) → r x ≡ (q x && p x)) → ((x : A) → s x ≡ (q x && not (p x)))
    → IsPermutation (filter q xs) (filter r xs ++ filter s xs)
split {A} p q r s xs first second =
    let other : A → Bool = λ x. not (p x) in
    let one : filter p (filter q xs) ≡ filter r xs = filter-twice p q r xs first in
    let two : filter other (filter q xs) ≡ filter s xs = filter-twice other q s xs second in
    subst (IsPermutation (filter q xs)) (λ i. one i ++ two i) (IsPermutation-filter_both p other (λ x. refl) (filter q xs))

-- sorted members, and behind them others of which none stands before one of them
sorted-cons : {A : Type 0} (position : A → ℕ × ℕ × ℕ) (x : A) (ys : List A) → ((d : A) → 0 < length ys → ¬ IsBefore (position (slice_index_or ys 0 d)) (position x))
    → IsSorted position ys → IsSorted position (x ∷ ys)
sorted-cons position x ys first rest zero d within before = first d (omega (arith, within)) before
sorted-cons {A} position x ys first rest (suc k) d within before =
    let next : suc k + 1 ≡ suc (k + 1) = omega arith in
    rest k d (omega (arith, within)) (subst (λ j. IsBefore (position (slice_index_or (x ∷ ys) j d)) (position (slice_index_or ys k d))) next before)

sorted-tail : {A : Type 0} (position : A → ℕ × ℕ × ℕ) (x : A) (xs : List A) → IsSorted position (x ∷ xs) → IsSorted position xs
sorted-tail position x xs sorted k d within before =
    let next : suc k + 1 ≡ suc (k + 1) = omega arith in
    sorted (suc k) d (omega (arith, within)) (subst (λ j. IsBefore (position (slice_index_or (x ∷ xs) j d)) (position (slice_index_or xs k d))) (sym next) before)

sorted-append : {A : Type 0} (position : A → ℕ × ℕ × ℕ) (xs ys : List A) → IsSorted position xs → IsSorted position ys
    → All (λ x. All (λ y. ¬ IsBefore (position y) (position x)) ys) xs → IsSorted position (xs ++ ys)
sorted-append position [] ys first second across = second
sorted-append {A} position (x ∷ []) ys first second across =
    sorted-cons position x ys (λ d some. All-head (λ (x : A). All (λ y. ¬ IsBefore (position y) (position x)) ys) x [] across zero d some) second
sorted-append {A} position (x ∷ z ∷ xs) ys first second across =
    sorted-cons position x ((z ∷ xs) ++ ys) (λ d some. first zero x (omega arith))
    (sorted-append position (z ∷ xs) ys (sorted-tail position x (z ∷ xs) first) second
    (All-tail (λ (x : A). All (λ y. ¬ IsBefore (position y) (position x)) ys) x (z ∷ xs) across))

-- what stands at a later place stands before nothing at an earlier one
not-before : (x y : PartAnswer) → y.line < 2 ^ 32 → place_of x < place_of y → IsBefore (position_of_part_answer y) (position_of_part_answer x) → ⊥
not-before x y small less (inl file) = omega (arith, small, less, file)
not-before x y small less (inr (file, inl line)) = omega (arith, less, file, line)
not-before x y small less (inr (file, inr (line, part))) = omega (arith, less, file, line)

-- from a place on
abbrev from : ℕ → PartAnswer → Bool
from least a = nat_le least (place_of a)

from-more : (least most place : ℕ) → least ≤ most + 1 → nat_le (most + 1) place ≡ (nat_le least place && not (nat_le place most))
from-more least most place less = grind (arith, nat_tests)

-- the answers from a place on are these, in order
record Tiled (least : ℕ) (answers flat : List PartAnswer) : Type 0 where
  same : IsPermutation (filter (from least) answers) flat
  sorted : IsSorted position_of_part_answer flat
  past : All (λ a. (least ≤ place_of a) × (a.line < 2 ^ 32)) flat

-- none is behind the last place
none-behind : (answers : List PartAnswer) (least : ℕ) → All IsCodable answers → least ≡ 2 ^ 64 → filter (from least) answers ≡ []
none-behind answers least fits last =
    filter-none (from least) answers (λ k d less. at (slice_index_or answers k d) (fits k d less)) where
      at : (a : PartAnswer) → IsCodable a → from least a ≡ false
      at a fit =
          let small : place_of a < least = omega (arith, fit.file, fit.line, last) in
          grind (arith, nat_tests)

in-span : (span : Span) (least : ℕ) (a : PartAnswer) → span.least ≡ least → is_in span a ≡ true → (least ≤ place_of a) × (place_of a ≤ span.most)
in-span span least a first within =
    let tests = and_parts (nat_le span.least (place_of a)) (nat_le (place_of a) span.most) within in
    (omega (arith, first, leb-true span.least (place_of a) tests.0), leb-true (place_of a) span.most tests.1)

tiled : (answers : List PartAnswer) (least : ℕ) (spans : List Span) (parts : List (List PartAnswer)) → All IsCodable answers → AreNext least spans
    → AreTaken answers spans parts → Tiled least answers (flat_map (λ own. own) parts)
tiled answers least [] [] fits next taken = record {
  same = subst (λ (l : List PartAnswer). IsPermutation l []) (sym (none-behind answers least fits next)) (IsPermutation-refl []);
  sorted = λ k d within. absurd (omega (arith, within));
  past = All-nil (λ (a : PartAnswer). (least ≤ place_of a) × (a.line < 2 ^ 32));
}
tiled answers least (span ∷ spans) (own ∷ parts) fits next taken =
    let behind : ℕ = span.most + 1 in
    let flat : List PartAnswer = flat_map (λ own. own) parts in
    let rest = tiled answers behind spans parts fits next.2 taken.1 in
    let same : IsPermutation (filter (is_in span) answers) own = taken.0.same in
    let codes : All IsCodable own = All-permutation IsCodable (filter (is_in span) answers) own same (All-filter (is_in span) IsCodable answers fits) in
    let tests : All (λ a. is_in span a ≡ true) own =
    All-permutation (λ (a : PartAnswer). is_in span a ≡ true) (filter (is_in span) answers) own same (filter_passes (is_in span) answers) in
    record {
      same = IsPermutation-trans (filter (from least) answers) (filter (is_in span) answers ++ filter (from behind) answers) (own ++ flat)
          (split (λ (a : PartAnswer). nat_le (place_of a) span.most) (from least) (is_in span) (from behind) answers
          (λ a. ap (λ (n : ℕ). nat_le n (place_of a) && nat_le (place_of a) span.most) next.0)
          (λ a. from-more least span.most (place_of a) (omega (arith, next.0, next.1))))
          (IsPermutation-append (filter (is_in span) answers) own (filter (from behind) answers) flat same rest.same);
      sorted = sorted-append position_of_part_answer own flat taken.0.sorted rest.sorted
          (λ k d less j e within before.
          not-before (slice_index_or own k d) (slice_index_or flat j e) (rest.past j e within).1 (omega (arith, (rest.past j e within).0, (in-span span least (slice_index_or own k d) next.0 (tests k d less)).1)) before);
      past = All-append (λ (a : PartAnswer). (least ≤ place_of a) × (a.line < 2 ^ 32)) own flat
          (λ k d less. ((in-span span least (slice_index_or own k d) next.0 (tests k d less)).0, (codes k d less).line))
          (All-weaker (λ (a : PartAnswer). (behind ≤ place_of a) × (a.line < 2 ^ 32)) (λ (a : PartAnswer). (least ≤ place_of a) × (a.line < 2 ^ 32))
          (λ a h. (omega (arith, h.0, next.0, next.1), h.1)) flat rest.past);
    }
tiled answers least [] (own ∷ parts) fits next taken = absurd taken
tiled answers least (span ∷ spans) [] fits next taken = absurd taken

-- those of spans that divide all places are the members in order
pub all-taken : (members : List Answered) (spans : List Span) (parts : List (List PartAnswer)) → All IsCodable (map without_way members) → AreNext 0 spans
    → AreTaken (map without_way members) spans parts
    → (all : List Answered) × IsMerged position_of_part members all × (flat_map (λ own. own) parts ≡ map without_way all)
all-taken members spans parts fits next taken =
    let answers : List PartAnswer = map without_way members in
    let t = tiled answers 0 spans parts fits next taken in
    let every : filter (from 0) answers ≡ answers = filter-all (from 0) answers (λ k d less. le-leb 0 (place_of (slice_index_or answers k d)) (omega arith)) in
    merged-answers members (flat_map (λ own. own) parts) (subst (λ (l : List PartAnswer). IsPermutation l (flat_map (λ own. own) parts)) every t.same) t.sorted

pub taken-append : (answers : List PartAnswer) (spans others : List Span) (parts more : List (List PartAnswer)) → AreTaken answers spans parts
    → AreTaken answers others more → AreTaken answers (spans ++ others) (parts ++ more)
taken-append answers [] others [] more taken rest = rest
taken-append answers (span ∷ spans) others (own ∷ parts) more taken rest = (taken.0, taken-append answers spans others parts more taken.1 rest)
taken-append answers [] others (own ∷ parts) more taken rest = absurd taken
taken-append answers (span ∷ spans) others [] more taken rest = absurd taken

-- where a message begins with the first of each, none is cut
begins-flat : (parts : List (List PartAnswer)) → All BeginsMessage parts → BeginsMessage (flat_map (λ own. own) parts)
begins-flat [] begins = tt
begins-flat ([] ∷ parts) begins = begins-flat parts (All-tail BeginsMessage [] parts begins)
begins-flat ((x ∷ xs) ∷ parts) begins = All-head BeginsMessage (x ∷ xs) parts begins

pub answers-flat : (topics : List (List ℕ × Kind)) (parts : List (List PartAnswer)) → All BeginsMessage parts
    → flat_map (answers_of topics) parts ≡ answers_of topics (flat_map (λ own. own) parts)
answers-flat topics [] begins = refl
answers-flat topics (own ∷ parts) begins =
    let flat : List PartAnswer = flat_map (λ own. own) parts in
    let rest : All BeginsMessage parts = All-tail BeginsMessage own parts begins in
    ap (λ (more : List Answer). answers_of topics own ++ more) (answers-flat topics parts rest)
    ∙ sym (ap (map (joined topics)) (cut-between own flat (begins-flat parts rest))
    ∙ map-append (joined topics) (messages_in_order own) (messages_in_order flat))

-- nor where there is one span
pub answers-one : (topics : List (List ℕ × Kind)) (answers : List PartAnswer) (span : Span) (parts : List (List PartAnswer)) → AreTaken answers (span ∷ []) parts
    → flat_map (answers_of topics) parts ≡ answers_of topics (flat_map (λ own. own) parts)
answers-one topics answers span [] taken = absurd taken
answers-one topics answers span (own ∷ []) taken =
    append-nil (answers_of topics own) ∙ ap (answers_of topics) (sym (append-nil own))
answers-one topics answers span (own ∷ other ∷ more) taken = absurd taken.1

-- a span with one place more has those that it had, and this one
both : (a b : Bool) → a ≡ true → b ≡ true → (a && b) ≡ true
both a b e f = ap (λ (c : Bool). c && b) e ∙ f

has-first : (least most place : ℕ) → (nat_le (min least place) place && nat_le place (max most place)) ≡ true
has-first least most place =
    both (nat_le (min least place) place) (nat_le place (max most place)) (le-leb (min least place) place (omega arith)) (le-leb place (max most place) (omega arith))

has-more : (least most place other : ℕ) → (nat_le least other && nat_le other most) ≡ true
    → (nat_le (min least place) other && nat_le other (max most place)) ≡ true
has-more least most place other was =
    let tests = and_parts (nat_le least other) (nat_le other most) was in
    both (nat_le (min least place) other) (nat_le other (max most place)) (le-leb (min least place) other (omega (arith, leb-true least other tests.0)))
    (le-leb other (max most place) (omega (arith, leb-true other most tests.1)))

pub wider : (was now : Span) (x : PartAnswer) (done : List PartAnswer) (place : ℕ) → place ≡ place_of x → now.least ≡ min was.least place
    → now.most ≡ max was.most place → All (λ a. is_in was a ≡ true) done → All (λ a. is_in now a ≡ true) (done ++ x ∷ [])
wider was now x done place is least most held =
    All-append (λ (a : PartAnswer). is_in now a ≡ true) done (x ∷ [])
    (All-weaker (λ (a : PartAnswer). is_in was a ≡ true) (λ (a : PartAnswer). is_in now a ≡ true)
    (λ a h. ends (place_of a) ∙ has-more was.least was.most place (place_of a) h) done held)
    (All-cons (λ (a : PartAnswer). is_in now a ≡ true) x [] (ends (place_of x) ∙ ap (λ (p : ℕ). nat_le (min was.least place) p && nat_le p (max was.most place)) (sym is)
    ∙ has-first was.least was.most place) (All-nil (λ (a : PartAnswer). is_in now a ≡ true))) where
      ends : (p : ℕ) → (nat_le now.least p && nat_le p now.most) ≡ (nat_le (min was.least place) p && nat_le p (max was.most place))
      ends p = ap (λ (n : ℕ). nat_le n p && nat_le p now.most) least ∙ ap (λ (n : ℕ). nat_le (min was.least place) p && nat_le p n) most
