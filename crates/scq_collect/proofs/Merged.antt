-- Members merged: what a sort by their positions gives, and that it is told by the members alone.
use Rattle.std.proofs.Common.{◌≡◌, ◌∙◌, refl, sym, ap, subst, inl, inr, arith, true, ℕ, ◌+◌, ◌<◌, List, [], ◌∷◌, length, map}
use Rattle.std.specs.Prelude.{slice_index_or}
use Rattle.std.specs.List.{All}
use Rattle.std.specs.List.Sorted.{IsPermutation, IsSortedByKey}
use Rattle.std.specs.Ordering.{is_lt, nat_cmp, ordering_then}
use Rattle.std.proofs.lemmas.Bool.{lt-ltb}
use Rattle.std.proofs.lemmas.List.{get_or-map, length-map}
use Rattle.std.proofs.lemmas.List.Sorted.{IsPermutation-map}
use Rattle.scq_topics.specs.declared.kind.Kind.{Kind}
use Rattle.scq_collect.specs.declared.answered.Answered.{Answered}
use Rattle.scq_frames.specs.declared.message.Message.{Message}
use Rattle.scq_collect.specs.Exports.{messages_to, IsJoined, answers_of, part_answers, without_way, AreApart, IsBefore, StandInOrder, IsMerged}
use Rattle.scq_collect.specs.Exports.{IsSorted, position_of, position_of_part, Answer, answers_to}
use Rattle.scq_collect.proofs.Orders.{Ascends, apart-distinct, ascends, exactly, sorted-in-order}
use Rattle.scq_collect.proofs.Parted.{joined-answers, parts-ascend, position_of_part_answer}
use Rattle.scq_collect.proofs.Threads.{messages-answered, messages-ascend}

-- a position that stands before another is less
before-less : (p q : ℕ × ℕ × ℕ) → IsBefore p q → is_lt (ordering_then (ordering_then (nat_cmp p.0 q.0) (nat_cmp p.1 q.1)) (nat_cmp p.2 q.2)) ≡ true
before-less p q (inl less) = rw (lt-ltb p.0 q.0 less) refl
before-less p q (inr (file, inl less)) = grind (arith, lt-ltb)
before-less p q (inr (file, inr (line, less))) = grind (arith, lt-ltb)

pub sorted-from : {A : Type 0} (position : A → ℕ × ℕ × ℕ) (xs : List A) → IsSortedByKey position (λ p q. ordering_then (ordering_then (nat_cmp p.0 q.0) (nat_cmp p.1 q.1)) (nat_cmp p.2 q.2)) xs
    → IsSorted position xs
sorted-from position xs sorted k d within before =
    let less = before-less (position (slice_index_or xs (k + 1) d)) (position (slice_index_or xs k d)) before in
    let not_less = sorted k d (omega arith) within in
    absurd (cc)

-- what is made of sorted members, and keeps their positions, is sorted
pub sorted-map : {A B : Type 0} (f : A → B) (position : A → ℕ × ℕ × ℕ) (other : B → ℕ × ℕ × ℕ) (xs : List A) → All (λ x. position x ≡ other (f x)) xs → IsSorted position xs
    → IsSorted other (map f xs)
sorted-map f position other [] same sorted k d within before = absurd (omega arith)
sorted-map {A} {B} f position other (x ∷ xs) same sorted k d within before =
    let long : k + 1 < length (x ∷ xs) = omega (arith, length-map (x ∷ xs) f) in
    let read : (j : ℕ) → j < length (x ∷ xs) → position (slice_index_or (x ∷ xs) j x) ≡ other (slice_index_or (map f (x ∷ xs)) j d) =
    λ j less. same j x less ∙ ap other (sym (get_or-map f (x ∷ xs) j x d less)) in
    sorted k x long (subst (λ p. IsBefore p (position (slice_index_or (x ∷ xs) k x))) (sym (read (k + 1) long))
    (subst (λ p. IsBefore (other (slice_index_or (map f (x ∷ xs)) (k + 1) d)) p) (sym (read k (omega arith))) before))

-- where no two have one position, they are in order
pub merged-in-order : (given all : List Answered) → IsMerged position_of_part given all → AreApart position_of_part given → StandInOrder position_of_part all
merged-in-order given all m apart = sorted-in-order position_of_part given all (apart-distinct position_of_part given apart) m.same m.sorted

-- where they are these in some order, and these are in order, they are these
pub merged-exactly : (given all these : List Answered) → IsMerged position_of_part given all → StandInOrder position_of_part these
    → IsPermutation given these → all ≡ these
merged-exactly given all these m order same = exactly position_of_part given all these m.same m.sorted (ascends position_of_part these order) same

-- where they are the answers to all parts of messages that ascend, in some order, they are these in theirs
pub merged-parts : (topics : List (List ℕ × Kind)) (size : ℕ) (ms : List Message) (given all : List Answered) → IsMerged position_of_part given all
    → Ascends position_of ms → IsPermutation (map without_way given) (part_answers topics size ms) → map without_way all ≡ part_answers topics size ms
merged-parts topics size ms given all m up same =
    exactly position_of_part_answer (map without_way given) (map without_way all) (part_answers topics size ms)
    (IsPermutation-map without_way given all m.same)
    (sorted-map without_way position_of_part position_of_part_answer all (λ k d within. refl) m.sorted)
    (parts-ascend topics size ms up) same

-- where the messages are those of files, their answers are those of one thread
pub merged-one-thread : (topics : List (List ℕ × Kind)) (size : ℕ) (contents : List (List ℕ)) (given : List Answered) (wholes : List Answer)
    → IsJoined topics given wholes → 0 < size → IsPermutation (map without_way given) (part_answers topics size (messages_to topics 1 contents))
    → wholes ≡ answers_to topics 1 contents
merged-one-thread topics size contents given wholes j some same =
    j.wholes_are
    ∙ ap (answers_of topics) (merged-parts topics size (messages_to topics 1 contents) given j.all j.merged (messages-ascend topics 1 contents) same)
    ∙ joined-answers topics size (messages_to topics 1 contents) some ∙ messages-answered topics 1 contents
