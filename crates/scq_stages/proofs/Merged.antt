-- Members in order of file and line: what a sort by these gives, and that it is told by the members alone.
use Rattle.std.proofs.Common.{◌≡◌, refl, subst, inl, inr, arith, true, ℕ, ◌+◌, List, map, Bor}
use Rattle.std.specs.Prelude.{slice_index_or}
use Rattle.std.specs.List.{All}
use Rattle.std.specs.List.Sorted.{IsPermutation, IsSortedByKey}
use Rattle.std.specs.Ordering.{is_lt, nat_cmp, ordering_then}
use Rattle.std.proofs.lemmas.Bool.{lt-ltb}
use Rattle.std.proofs.lemmas.List.Sorted.{All-permutation, IsPermutation-map}
use Rattle.scq_collect.specs.Exports.{IsBefore, StandInOrder, IsMerged, IsSorted}
use Rattle.scq_collect.proofs.Merged.{sorted-map}
use Rattle.scq_collect.proofs.Orders.{ascends, exactly}
use Rattle.scq_stages.specs.declared.finished.Finished.{Finished}
use Rattle.scq_stages.specs.Exports.{position_of_finished, position_of_handled, all_handled, without_way}
use Rattle.scq_stages.proofs.Threads.{handled-ascend}

-- a member with its position
abbrev Placed : Type 0
Placed = ℕ × ℕ × Bor Finished

abbrev key : Placed → ℕ × ℕ
key m = (m.0, m.1)

abbrev position : Placed → ℕ × ℕ × ℕ
position m = (m.0, m.1, 1)

-- a position that stands before another is less
before-less : (p q : ℕ × ℕ) → IsBefore (p.0, p.1, 1) (q.0, q.1, 1) → is_lt (ordering_then (nat_cmp p.0 q.0) (nat_cmp p.1 q.1)) ≡ true
before-less p q (inl less) = rw (lt-ltb p.0 q.0 less) refl
before-less p q (inr (file, inl less)) = grind (arith, lt-ltb)
before-less p q (inr (file, inr (line, less))) = absurd (omega (arith, less))

sorted-from : (xs : List Placed) → IsSortedByKey key (λ p q. ordering_then (nat_cmp p.0 q.0) (nat_cmp p.1 q.1)) xs → IsSorted position xs
sorted-from xs sorted k d within before =
    let less = before-less (key (slice_index_or xs (k + 1) d)) (key (slice_index_or xs k d)) before in
    let not_less = sorted k d (omega arith) within in
    absurd (cc)

-- members are merged by a sort of them with their positions beside them
pub merged-by : (given : List Finished) (members sorted : List Placed) → map (λ m. m.2.now) members ≡ given
    → All (λ m. (m.0, m.1, 1) ≡ position_of_finished m.2.now) members
    → IsPermutation members sorted → IsSortedByKey key (λ p q. ordering_then (nat_cmp p.0 q.0) (nat_cmp p.1 q.1)) sorted
    → IsMerged position_of_finished given (map (λ m. m.2.now) sorted)
merged-by given members sorted are placed same order =
    let now : Placed → Finished = λ m. m.2.now in
    let Q : List Finished → Type 0 = λ given. IsPermutation given (map now sorted) in
    record {
      same = subst Q are (IsPermutation-map now members sorted same);
      sorted = sorted-map now position position_of_finished sorted
          (All-permutation (λ (m : Placed). position m ≡ position_of_finished m.2.now) members sorted same placed) (sorted-from sorted order);
    }

-- where they are these in some order, and these are in order, they are these
pub merged-exactly : (given all these : List Finished) → IsMerged position_of_finished given all → StandInOrder position_of_finished these
    → IsPermutation given these → all ≡ these
merged-exactly given all these m order same = exactly position_of_finished given all these m.same m.sorted (ascends position_of_finished these order) same

-- where they are what becomes of all messages of files, in some order, they stand as one thread has them
pub merged-one-thread : (contents : List (List ℕ)) (given all : List Finished) → IsMerged position_of_finished given all
    → IsPermutation (map without_way given) (all_handled 1 contents) → map without_way all ≡ all_handled 1 contents
merged-one-thread contents given all m same =
    exactly position_of_handled (map without_way given) (map without_way all) (all_handled 1 contents)
    (IsPermutation-map without_way given all m.same)
    (sorted-map without_way position_of_finished position_of_handled all (λ k d within. refl) m.sorted)
    (handled-ascend 1 contents) same
