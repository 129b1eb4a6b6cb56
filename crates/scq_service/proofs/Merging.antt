-- Answers to whole messages, merged: they are on known topics, as the members of the lists are.
use Rattle.std.proofs.Common.{sym, subst, arith, ◌≤◌, true, false, Bool, ℕ, List, [], ◌∷◌, map}
use Rattle.std.specs.Prelude.{◌==◌, if◌then◌else◌}
use Rattle.std.specs.List.{All}
use Rattle.std.proofs.lemmas.List.{get_or-map, length-map}
use Rattle.std.proofs.lemmas.List.Elements.{All-nil, All-cons, All-head, All-tail, All-map}
use Rattle.std.proofs.lemmas.List.Sorted.{All-permutation}
use Rattle.scq_topics.specs.declared.kind.Kind.{Kind}
use Rattle.scq_collect.specs.declared.answered.Answered.{Answered}
use Rattle.scq_collect.specs.declared.whole.Whole.{Whole}
use Rattle.scq_collect.specs.Exports.{IsJoined, PartAnswer, answers_of, in_front, joined, messages_in_order, without_way, Answer, answer_of_whole}

-- a message's topic is that of its first part
first-topic : (topics : List (List ℕ × Kind)) (known : ℕ) (a : PartAnswer) (group : List PartAnswer) → a.topic ≤ known
    → (joined topics (a ∷ group)).topic ≤ known
first-topic topics known a [] low = low
first-topic topics known a (b ∷ more) low = low

-- messages whose parts are on known topics
abbrev AreKnown : List (List ℕ × Kind) → ℕ → List (List PartAnswer) → Type 0
AreKnown topics known groups = All (λ group. (joined topics group).topic ≤ known) groups

front-known : (topics : List (List ℕ × Kind)) (known : ℕ) (a : PartAnswer) (groups : List (List PartAnswer)) → a.topic ≤ known
    → AreKnown topics known groups
    → AreKnown topics known (in_front a groups)
front-known topics known a [] low rest =
    All-cons (λ (group : List PartAnswer). (joined topics group).topic ≤ known) (a ∷ []) [] (first-topic topics known a [] low)
    (All-nil (λ (group : List PartAnswer). (joined topics group).topic ≤ known))
front-known topics known a (group ∷ more) low rest =
    All-cons (λ (group : List PartAnswer). (joined topics group).topic ≤ known) (a ∷ group) more (first-topic topics known a group low)
    (All-tail (λ (group : List PartAnswer). (joined topics group).topic ≤ known) group more rest)

parts-known : (topics : List (List ℕ × Kind)) (known : ℕ) (parts : List PartAnswer) → All (λ a. a.topic ≤ known) parts
    → AreKnown topics known (messages_in_order parts)
parts-known topics known [] low = All-nil (λ (group : List PartAnswer). (joined topics group).topic ≤ known)
parts-known topics known (a ∷ []) low =
    front-known topics known a [] (All-head (λ (x : PartAnswer). x.topic ≤ known) a [] low)
    (All-nil (λ (group : List PartAnswer). (joined topics group).topic ≤ known))
parts-known topics known (a ∷ b ∷ more) low =
    let here : a.topic ≤ known = All-head (λ (x : PartAnswer). x.topic ≤ known) a (b ∷ more) low in
    by here (parts-known topics known (b ∷ more) (All-tail (λ (x : PartAnswer). x.topic ≤ known) a (b ∷ more) low)) (b.part == 1) where
      by : a.topic ≤ known → AreKnown topics known (messages_in_order (b ∷ more)) → (first : Bool)
          → AreKnown topics known (if first then (a ∷ []) ∷ messages_in_order (b ∷ more) else in_front a (messages_in_order (b ∷ more)))
      by here rest true =
          All-cons (λ (group : List PartAnswer). (joined topics group).topic ≤ known) (a ∷ []) (messages_in_order (b ∷ more))
          (first-topic topics known a [] here) rest
      by here rest false = front-known topics known a (messages_in_order (b ∷ more)) here rest

-- what was merged is on known topics, as the members are
pub merged-known : (topics : List (List ℕ × Kind)) (known : ℕ) (members : List Answered) (wholes : List Whole) → All (λ a. a.topic ≤ known) members
    → IsJoined topics members (map answer_of_whole wholes) → All (λ w. w.topic ≤ known) wholes
merged-known topics known members wholes low merged k d less =
    let all : All (λ a. a.topic ≤ known) merged.all = All-permutation (λ (a : Answered). a.topic ≤ known) members merged.all merged.merged.same low in
    let plain : All (λ a. a.topic ≤ known) (map without_way merged.all) = All-map (λ (a : PartAnswer). a.topic ≤ known) without_way merged.all all in
    let groups = parts-known topics known (map without_way merged.all) plain in
    let answers : All (λ a. a.topic ≤ known) (answers_of topics (map without_way merged.all)) =
    All-map (λ (a : Answer). a.topic ≤ known) (joined topics) (messages_in_order (map without_way merged.all)) groups in
    let same : All (λ a. a.topic ≤ known) (map answer_of_whole wholes) =
    subst (λ (l : List Answer). All (λ a. a.topic ≤ known) l) (sym merged.wholes_are) answers in
    subst (λ (a : Answer). a.topic ≤ known) (get_or-map answer_of_whole wholes k d (answer_of_whole d) less)
    (same k (answer_of_whole d) (omega (arith, less, length-map wholes answer_of_whole)))
