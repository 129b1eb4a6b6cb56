-- What spots are of: an answer where it lies, those of a block, those of all blocks, and members merged.
use Rattle.std.proofs.Common.{◌≡◌, ◌∙◌, refl, sym, ap, subst, arith, ℕ, ◌+◌, ◌<◌, ◌≤◌, ◌^◌, Option, Some, None, List, [], ◌∷◌, ◌++◌, length, map, set, get_or, append_assoc}
use Rattle.std.specs.Prelude.{flat_map, slice_index_or}
use Rattle.std.specs.List.{All, swap}
use Rattle.std.specs.List.Sorted.{IsPermutation}
use Rattle.std.proofs.lemmas.List.{append-nil, get_or-map, length-map, map-set}
use Rattle.std.proofs.lemmas.List.Edits.{swap_is}
use Rattle.std.proofs.lemmas.List.Elements.{All-cons, All-head, All-map, All-nil, All-tail}
use Rattle.std.proofs.lemmas.List.Sorted.{All-permutation, IsPermutation-keeps, IsPermutation-map, IsPermutation-refl, IsPermutation-swap, IsPermutation-trans}
use Rattle.scq_collect.specs.declared.answered.Answered.{Answered}
use Rattle.scq_collect.specs.declared.blocks.OwnBlock.{OwnBlock}
use Rattle.scq_collect.specs.declared.spots.Spot.{Spot}
use Rattle.scq_collect.specs.Exports.{IsCodable, answer_bytes, answers_bytes, body_bytes, body_from, place_from, AreInBlocks, PartAnswer, without_way}
use Rattle.scq_collect.specs.Exports.{IsBefore, IsMerged, IsSorted, position_of_part, AreMerged, answer_in, body_or_nothing, plain, position_of_spot}
use Rattle.scq_collect.specs.Exports.{spot_answer}
use Rattle.scq_collect.proofs.CodingLaws.{body-again, place-again}
use Rattle.scq_collect.proofs.Cuts.{all-left, all-right}
use Rattle.scq_collect.proofs.Merged.{sorted-map}
use Rattle.scq_collect.proofs.Parted.{position_of_part_answer}

abbrev value : {A : Type 0} → Option A → A → A
value None d = d
value (Some x) d = x

same-value : {A : Type 0} (x y : A) → Some x ≡ Some y → x ≡ y
same-value {A} x y e = ap (λ (o : Option A). value o x) e

abbrev with_body : PartAnswer → Option (PartAnswer × List ℕ) → PartAnswer
with_body a o =
    let body = body_or_nothing o in
    record { file = a.file; line = a.line; topic = body.topic; part = a.part; parts = body.parts; bytes = body.bytes; text = body.text }

-- what lies where an answer was put is that answer
there : (a : PartAnswer) (rest : List ℕ) → IsCodable a → answer_in a.file a.line a.part (body_bytes a ++ rest) ≡ a
there a rest fits = ap (with_body a) (body-again a rest fits)

-- what is found of an answer that was put behind one to this file and line
pub found : (before : ℕ × ℕ) (a : PartAnswer) (bytes rest : List ℕ) (place : ℕ × ℕ) (body : List ℕ) (view : PartAnswer) (behind : List ℕ)
    → before.0 < 2 ^ 32 → before.1 < 2 ^ 32 → IsCodable a → bytes ≡ answer_bytes before a ++ rest
    → ◌≡◌ {A = Option ((ℕ × ℕ) × List ℕ)} (Some (place, body)) (place_from before bytes)
    → ◌≡◌ {A = Option (PartAnswer × List ℕ)} (Some (view, behind)) (body_from place body)
    → ◌≡◌ {A = Option (PartAnswer × List ℕ)} (Some (answer_in place.0 place.1 view.part body, behind)) (Some (a, rest))
found before a bytes rest place body view behind low1 low2 fits its first second =
    let at = same-value (place, body) ((a.file, a.line), body_bytes a ++ rest) (first ∙ ap (place_from before) its ∙ place-again before a rest low1 low2 fits) in
    let is = same-value (view, behind) (a, rest)
    (second ∙ ap (λ (q : (ℕ × ℕ) × List ℕ). body_from q.0 q.1) at ∙ body-again a rest fits) in
    ap (λ (q : (ℕ × ℕ) × List ℕ). Some (answer_in q.0.0 q.0.1 view.part q.1, behind)) at
    ∙ ap (λ (q : PartAnswer × List ℕ). Some (answer_in a.file a.line q.0.part (body_bytes a ++ rest), q.1)) is
    ∙ ap (λ (b : PartAnswer). Some (b, rest)) (there a rest fits)

-- its place is found
pub some-place : (before : ℕ × ℕ) (a : PartAnswer) (bytes rest : List ℕ) → before.0 < 2 ^ 32 → before.1 < 2 ^ 32 → IsCodable a
    → bytes ≡ answer_bytes before a ++ rest → place_from before bytes ≡ Some ((a.file, a.line), body_bytes a ++ rest)
some-place before a bytes rest low1 low2 fits its = ap (place_from before) its ∙ place-again before a rest low1 low2 fits

-- and the rest of it
pub some-body : (before : ℕ × ℕ) (a : PartAnswer) (bytes rest : List ℕ) (place : ℕ × ℕ) (body : List ℕ)
    → before.0 < 2 ^ 32 → before.1 < 2 ^ 32 → IsCodable a → bytes ≡ answer_bytes before a ++ rest
    → ◌≡◌ {A = Option ((ℕ × ℕ) × List ℕ)} (Some (place, body)) (place_from before bytes) → body_from place body ≡ Some (a, rest)
some-body before a bytes rest place body low1 low2 fits its first =
    let at = same-value (place, body) ((a.file, a.line), body_bytes a ++ rest) (first ∙ some-place before a bytes rest low1 low2 fits its) in
    ap (λ (q : (ℕ × ℕ) × List ℕ). body_from q.0 q.1) at ∙ body-again a rest fits

-- a block's answers up to a place in it, of which this holds; the bytes from there on are those of the rest
pub record Walked (answers : List PartAnswer) (before : ℕ × ℕ) (rest : List ℕ) (P : List PartAnswer → Type 0) : Type 0 where
  pub done : List PartAnswer
  pub todo : List PartAnswer
  pub all : answers ≡ done ++ todo
  pub left : rest ≡ answers_bytes before todo
  pub codable : All IsCodable todo
  pub so_far : P done

pub walked-none : (answers : List PartAnswer) (block : List ℕ) (P : List PartAnswer → Type 0) → All IsCodable answers → block ≡ answers_bytes (0, 0) answers
    → P [] → Walked answers (0, 0) block P
walked-none answers block P fits its none =
    record { done = []; todo = answers; all = refl; left = its; codable = fits; so_far = none }

step-by : (answers done todo : List PartAnswer) (before : ℕ × ℕ) (rest : List ℕ) (P Q : List PartAnswer → Type 0) (x : PartAnswer) (behind : List ℕ)
    → ((a : PartAnswer) (r : List ℕ) → IsCodable a → rest ≡ answer_bytes before a ++ r → ◌≡◌ {A = Option (PartAnswer × List ℕ)} (Some (x, behind)) (Some (a, r)))
    → length behind < length rest → ((so : List PartAnswer) → P so → Q (so ++ x ∷ []))
    → answers ≡ done ++ todo → rest ≡ answers_bytes before todo → All IsCodable todo → P done → Walked answers (x.file, x.line) behind Q
step-by answers done [] before rest P Q x behind again short next all left fits held = absurd (omega (arith, ap length left, short))
step-by answers done (a ∷ todo) before rest P Q x behind again short next all left fits held =
    let is = same-value (x, behind) (a, answers_bytes (a.file, a.line) todo) (again a (answers_bytes (a.file, a.line) todo) (All-head IsCodable a todo fits) left) in
    let same : x ≡ a = ap (λ (q : PartAnswer × List ℕ). q.0) is in
    record {
      done = done ++ a ∷ [];
      todo = todo;
      all = all ∙ sym (append_assoc done (a ∷ []) todo);
      left = ap (λ (q : PartAnswer × List ℕ). q.1) is ∙ ap (λ (y : PartAnswer). answers_bytes (y.file, y.line) todo) (sym same);
      codable = All-tail IsCodable a todo fits;
      so_far = subst (λ (y : PartAnswer). Q (done ++ y ∷ [])) same (next done held);
    }

pub walked-step : (answers : List PartAnswer) (before : ℕ × ℕ) (rest : List ℕ) (P Q : List PartAnswer → Type 0) (x : PartAnswer) (behind : List ℕ)
    → ((a : PartAnswer) (r : List ℕ) → IsCodable a → rest ≡ answer_bytes before a ++ r → ◌≡◌ {A = Option (PartAnswer × List ℕ)} (Some (x, behind)) (Some (a, r)))
    → length behind < length rest → ((so : List PartAnswer) → P so → Q (so ++ x ∷ [])) → Walked answers before rest P → Walked answers (x.file, x.line) behind Q
walked-step answers before rest P Q x behind again short next w =
    step-by answers w.done w.todo before rest P Q x behind again short next w.all w.left w.codable w.so_far

end-by : (answers done todo : List PartAnswer) (before : ℕ × ℕ) (rest : List ℕ) (P : List PartAnswer → Type 0)
    → ((a : PartAnswer) (r : List ℕ) → IsCodable a → rest ≡ answer_bytes before a ++ r → ◌≡◌ {A = Option (PartAnswer × List ℕ)} None (Some (a, r)))
    → answers ≡ done ++ todo → rest ≡ answers_bytes before todo → All IsCodable todo → P done → P answers
end-by answers done [] before rest P again all left fits held = subst P (sym (all ∙ append-nil done)) held
end-by answers done (a ∷ todo) before rest P again all left fits held =
    let none = again a (answers_bytes (a.file, a.line) todo) (All-head IsCodable a todo fits) left in
    absurd (cc)

pub walked-end : (answers : List PartAnswer) (before : ℕ × ℕ) (rest : List ℕ) (P : List PartAnswer → Type 0)
    → ((a : PartAnswer) (r : List ℕ) → IsCodable a → rest ≡ answer_bytes before a ++ r → ◌≡◌ {A = Option (PartAnswer × List ℕ)} None (Some (a, r)))
    → Walked answers before rest P → P answers
walked-end answers before rest P again w = end-by answers w.done w.todo before rest P again w.all w.left w.codable w.so_far

-- what holds of all answers holds of those of each group
in-groups : {A : Type 0} (P : A → Type 0) (groups : List (List A)) → All P (flat_map (λ group. group) groups) → All (All P) groups
in-groups P [] all = All-nil (All P)
in-groups P (group ∷ groups) all =
    All-cons (All P) group groups (all-left P group (flat_map (λ group. group) groups) all)
    (in-groups P groups (all-right P group (flat_map (λ group. group) groups) all))

pub codable-groups : (full : List OwnBlock) (block : OwnBlock) (before : ℕ × ℕ) (answers : List PartAnswer) (held : AreInBlocks full block before answers)
    → All (All IsCodable) held.groups
codable-groups full block before answers held =
    in-groups IsCodable held.groups (all-left IsCodable (flat_map (λ group. group) held.groups) held.last (subst (All IsCodable) held.all held.codable))

pub codable-last : (full : List OwnBlock) (block : OwnBlock) (before : ℕ × ℕ) (answers : List PartAnswer) (held : AreInBlocks full block before answers)
    → All IsCodable held.last
codable-last full block before answers held =
    all-right IsCodable (flat_map (λ group. group) held.groups) held.last (subst (All IsCodable) held.all held.codable)

-- what is made of a list in which two elements changed places
swap-map : {A B : Type 0} (f : A → B) (xs : List A) (i j : ℕ) → i < length xs → j < length xs → swap (map f xs) i j ≡ map f (swap xs i j)
swap-map f [] i j p q = absurd (omega (arith, p))
swap-map {A} {B} f (x ∷ xs) i j p q =
    let l : List A = x ∷ xs in
    let long = length-map l f in
    sym (ap (map f) (sym (swap_is l i j x p q)) ∙ map-set f (set l i (get_or l j x)) j (get_or l i x)
    ∙ ap (λ (m : List B). set m j (f (get_or l i x))) (map-set f l i (get_or l j x))
    ∙ ap (λ (y : B). set (set (map f l) i (f (get_or l j x))) j y) (sym (get_or-map f l i x (f x) p))
    ∙ ap (λ (y : B). set (set (map f l) i y) j (get_or (map f l) i (f x))) (sym (get_or-map f l j x (f x) q))
    ∙ swap_is (map f l) i j (f x) (omega (arith, p, long)) (omega (arith, q, long)))

-- what is made of a list, in another order, is what is made of the list in that order
lifted : {A B : Type 0} (f : A → B) (given : List A) (ys : List B) → IsPermutation (map f given) ys
    → (all : List A) × IsPermutation given all × (ys ≡ map f all)
lifted {A} {B} f given ys same =
    IsPermutation-keeps (map f given) (λ (l : List B). (all : List A) × IsPermutation given all × (l ≡ map f all)) (given, IsPermutation-refl given, refl)
    (λ l i j p q held.
    let long = ap length held.2 ∙ length-map held.0 f in
    let first : i < length held.0 = omega (arith, p, long) in
    let second : j < length held.0 = omega (arith, q, long) in (
      swap held.0 i j,
      IsPermutation-trans given held.0 (swap held.0 i j) held.1 (IsPermutation-swap held.0 (swap held.0 i j) i j first second refl),
      ap (λ (m : List B). swap m i j) held.2 ∙ swap-map f held.0 i j first second,
    )) ys same

-- what sorted members are made of is sorted
sorted-back : {A B : Type 0} (f : A → B) (position : A → ℕ × ℕ × ℕ) (other : B → ℕ × ℕ × ℕ) (xs : List A) → All (λ x. position x ≡ other (f x)) xs
    → IsSorted other (map f xs) → IsSorted position xs
sorted-back f position other xs same sorted k d within before =
    let read : (j : ℕ) → j < length xs → position (slice_index_or xs j d) ≡ other (slice_index_or (map f xs) j (f d)) =
    λ j less. same j d less ∙ ap other (sym (get_or-map f xs j d (f d) less)) in
    sorted k (f d) (omega (arith, within, length-map xs f)) (subst (λ p. IsBefore p (other (slice_index_or (map f xs) k (f d)))) (read (k + 1) within)
    (subst (λ p. IsBefore (position (slice_index_or xs (k + 1) d)) p) (read k (omega (arith, within))) before))

-- the answers of members in order are those of the members in some order
pub merged-answers : (members : List Answered) (parts : List PartAnswer) → IsPermutation (map without_way members) parts → IsSorted position_of_part_answer parts
    → (all : List Answered) × IsMerged position_of_part members all × (parts ≡ map without_way all)
merged-answers members parts same order =
    let up = lifted without_way members parts same in (
      up.0,
      record {
        same = up.1;
        sorted = sorted-back without_way position_of_part position_of_part_answer up.0 (λ k d less. refl) (subst (IsSorted position_of_part_answer) up.2 order);
      },
      up.2,
    )

-- spots in order after a sort
pub sorted-spots : (answers : List PartAnswer) (spots sorted : List Spot) → plain spots ≡ answers → IsPermutation spots sorted → IsSorted position_of_spot sorted
    → IsPermutation answers (plain sorted) × IsSorted position_of_part_answer (plain sorted)
sorted-spots answers spots sorted are same order = (
  subst (λ (l : List PartAnswer). IsPermutation l (plain sorted)) are (IsPermutation-map spot_answer spots sorted same),
  sorted-map spot_answer position_of_spot position_of_part_answer sorted (λ k d less. refl) order,
)

-- what holds of the topics of all members holds of those of their spots
pub known-spots : (most : ℕ) (members : List Answered) (spots : List Spot) → AreMerged members spots → All (λ a. a.topic ≤ most) members
    → All (λ s. (spot_answer s).topic ≤ most) spots
known-spots most members spots m known k d less =
    let P : PartAnswer → Type 0 = λ a. a.topic ≤ most in
    let all : All P (map without_way m.all) =
    All-map P without_way m.all (All-permutation (λ (a : Answered). a.topic ≤ most) members m.all m.merged.same known) in
    let plains : All P (plain spots) = subst (All P) (sym m.are) all in
    subst P (get_or-map spot_answer spots k d (spot_answer d) less) (plains k (spot_answer d) (omega (arith, less, length-map spots spot_answer)))
