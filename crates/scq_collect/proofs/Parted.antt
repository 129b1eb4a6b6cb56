-- The answers to all parts of messages: cut in front of each part 1 they are the messages, and joined they are the messages' answers.
use Rattle.std.proofs.Common.{◌≡◌, ◌≢◌, ◌∙◌, refl, sym, ap, subst, inl, inr, arith, false, zero, suc, ℕ, ◌+◌, ◌-◌, ◌*◌, ◌<◌, ◌≤◌, ◌⊎◌, List, [], ◌∷◌, ◌++◌, length, take, drop, map, cond}
use Rattle.std.specs.Prelude.{◌==◌, flat_map, max}
use Rattle.std.specs.Int.{div_ceil}
use Rattle.std.specs.List.{All, range_with_len}
use Rattle.std.proofs.Math.Nat.{mul-le-mul_right}
use Rattle.std.proofs.lemmas.Bool.Decides.{nat_tests}
use Rattle.std.proofs.lemmas.Grind.{div_ceil_times, flat_map-append}
use Rattle.std.proofs.lemmas.List.{append-nil, map-append, take_all}
use Rattle.std.proofs.lemmas.List.Elements.{All-nil, All-cons, All-append, All-head, All-tail, All-weaker}
use Rattle.std.proofs.lemmas.List.Folds.{flat_map-map}
use Rattle.std.proofs.lemmas.List.FromFn.{map-range_with_len_more}
use Rattle.scq_topics.specs.declared.kind.Kind.{Kind}
use Rattle.scq_topics.specs.Exports.{reply_of, kind_of}
use Rattle.scq_frames.specs.declared.message.Message.{Message}
use Rattle.scq_frames.specs.Exports.{Part, all_parts, part_bytes, parts_of}
use Rattle.scq_collect.specs.Exports.{answer_of, BeginsMessage, PartAnswer, answers_of, joined, messages_in_order, part_answer, part_answers}
use Rattle.scq_collect.specs.Exports.{text_of_parts, IsBefore, position_of, Answer}
pub use Rattle.scq_collect.specs.Taken.{position_of_part_answer}
use Rattle.scq_collect.proofs.Cutting.{cut-first}
use Rattle.scq_collect.proofs.InChunks.{chunk-more}
use Rattle.scq_collect.proofs.Orders.{Ascends, ascends-append}

-- what is made of one number more
range-more : (f : ℕ → List ℕ) (a n : ℕ) → flat_map f (range_with_len a (n + 1)) ≡ flat_map f (range_with_len a n) ++ f (a + n)
range-more f a n =
    let same : (x : ℕ) → ℕ = λ x. x in
    sym (flat_map-map f same (range_with_len a (n + 1)))
    ∙ ap (flat_map f) (map-range_with_len_more same a n (a + n) refl)
    ∙ flat_map-append f (map same (range_with_len a n)) ((a + n) ∷ [])
    ∙ ap (λ (front : List ℕ). front ++ flat_map f ((a + n) ∷ [])) (flat_map-map f same (range_with_len a n))
    ∙ ap (λ (last : List ℕ). flat_map f (range_with_len a n) ++ last) (append-nil (f (a + n)))

-- parts from the first on are a front of the payload
parts-front : (size n : ℕ) (payload : List ℕ) → flat_map (λ p. part_bytes size p payload) (range_with_len 1 n) ≡ take (n * size) payload
parts-front size zero payload =
    let none : 0 * size ≡ 0 = omega arith in
    sym (ap (λ (k : ℕ). take k payload) none)
parts-front size (suc n) payload =
    let next : suc n ≡ n + 1 = omega arith in
    let f : ℕ → List ℕ = λ p. part_bytes size p payload in
    let last : f (1 + n) ≡ take size (drop (n * size) payload) =
    let same : 1 + n - 1 ≡ n = omega arith in
    ap (λ (k : ℕ). take size (drop (k * size) payload)) same in
    ap (λ k. flat_map f (range_with_len 1 k)) next ∙ range-more f 1 n
    ∙ ap (λ (front : List ℕ). front ++ f (1 + n)) (parts-front size n payload)
    ∙ ap (λ (end : List ℕ). take (n * size) payload ++ end) last
    ∙ chunk-more payload size n ∙ ap (λ k. take (k * size) payload) (sym next)

-- all parts of a payload, joined in order, are the payload
pub parts-joined : (size : ℕ) (payload : List ℕ) → 0 < size
    → flat_map (λ p. part_bytes size p payload) (range_with_len 1 (parts_of size payload)) ≡ payload
parts-joined size payload some =
    let count : ℕ = div_ceil (length payload) size in
    let covers = (div_ceil_times (length payload) size some).0 in
    let more : count * size ≤ max 1 count * size = mul-le-mul_right size (omega arith) in
    parts-front size (parts_of size payload) payload ∙ take_all (max 1 count * size) payload (omega (arith, covers, more))

-- a part of a message, whose number of parts is known
abbrev part_with : ℕ → ℕ → Message → ℕ → Part
part_with size n m part = record { file = m.file; line = m.line; topic = m.topic; part = part; parts = n; payload = part_bytes size part m.payload }

-- the answers to parts of these numbers
abbrev answers_at : List (List ℕ × Kind) → ℕ → ℕ → Message → List ℕ → List PartAnswer
answers_at topics size n m numbers = map (part_answer topics) (map (part_with size n m) numbers)

-- where there are several parts, their texts are their bytes
texts : (topics : List (List ℕ × Kind)) (size n : ℕ) (m : Message) (numbers : List ℕ) → n ≢ 1
    → text_of_parts (answers_at topics size n m numbers) ≡ flat_map (λ p. part_bytes size p m.payload) numbers
texts topics size n m [] several = refl
texts topics size n m (p ∷ ps) several =
    let other : (n == 1) ≡ false = grind (arith, nat_tests) in
    let bytes : List ℕ = part_bytes size p m.payload in
    ap (λ b. cond b (reply_of (kind_of topics m.topic) bytes) bytes ++ text_of_parts (answers_at topics size n m ps)) other
    ∙ ap (λ (more : List ℕ). bytes ++ more) (texts topics size n m ps several)

-- the answer that a payload and its length give
abbrev answer_with : List (List ℕ × Kind) → Message → List ℕ → Answer
answer_with topics m payload = record {
  file = m.file;
  line = m.line;
  topic = m.topic;
  bytes = length payload;
  reply = reply_of (kind_of topics m.topic) payload;
}

joined-at : (topics : List (List ℕ × Kind)) (size n : ℕ) (m : Message) → 0 < n
    → flat_map (λ p. part_bytes size p m.payload) (range_with_len 1 n) ≡ m.payload
    → joined topics (answers_at topics size n m (range_with_len 1 n)) ≡ answer_of topics m
joined-at topics size zero m some whole = absurd (omega arith)
joined-at topics size (suc zero) m some whole = ap (answer_with topics m) (sym (append-nil (part_bytes size 1 m.payload)) ∙ whole)
joined-at topics size (suc (suc n)) m some whole =
    ap (answer_with topics m) (texts topics size (suc (suc n)) m (range_with_len 1 (suc (suc n))) (λ e. absurd (omega (arith, e))) ∙ whole)

-- parts from the second on begin no message
later-parts : (topics : List (List ℕ × Kind)) (size n : ℕ) (m : Message) (a k : ℕ) → 1 < a
    → All (λ x. x.part ≢ 1) (answers_at topics size n m (range_with_len a k))
later-parts topics size n m a zero past = All-nil (λ (x : PartAnswer). x.part ≢ 1)
later-parts topics size n m a (suc k) past =
    All-cons (λ (x : PartAnswer). x.part ≢ 1) (part_answer topics (part_with size n m a)) (answers_at topics size n m (range_with_len (a + 1) k))
    (λ e. absurd (omega (arith, e, past))) (later-parts topics size n m (a + 1) k (omega (arith, past)))

begins-at : (topics : List (List ℕ × Kind)) (size n : ℕ) (m : Message) (rest : List PartAnswer) → 0 < n
    → BeginsMessage (answers_at topics size n m (range_with_len 1 n) ++ rest)
begins-at topics size zero m rest some = absurd (omega arith)
begins-at topics size (suc n) m rest some = refl

cut-at : (topics : List (List ℕ × Kind)) (size n : ℕ) (m : Message) (rest : List PartAnswer) → 0 < n → BeginsMessage rest
    → messages_in_order (answers_at topics size n m (range_with_len 1 n) ++ rest) ≡ answers_at topics size n m (range_with_len 1 n) ∷ messages_in_order rest
cut-at topics size zero m rest some begins = absurd (omega arith)
cut-at topics size (suc n) m rest some begins =
    cut-first (part_answer topics (part_with size (suc n) m 1)) (answers_at topics size (suc n) m (range_with_len 2 n)) rest
    (later-parts topics size (suc n) m 2 n (omega arith)) begins

-- the parts of the first message, and those of the others
front : (topics : List (List ℕ × Kind)) (size : ℕ) (m : Message) (ms : List Message)
    → part_answers topics size (m ∷ ms) ≡ answers_at topics size (parts_of size m.payload) m (range_with_len 1 (parts_of size m.payload)) ++ part_answers topics size ms
front topics size m ms = map-append (part_answer topics) (all_parts size m) (flat_map (all_parts size) ms)

begins : (topics : List (List ℕ × Kind)) (size : ℕ) (ms : List Message) → BeginsMessage (part_answers topics size ms)
begins topics size [] = tt
begins topics size (m ∷ ms) = subst BeginsMessage (sym (front topics size m ms)) (begins-at topics size (parts_of size m.payload) m (part_answers topics size ms) (omega arith))

-- joined, they are the answers to the messages
pub joined-answers : (topics : List (List ℕ × Kind)) (size : ℕ) (ms : List Message) → 0 < size
    → answers_of topics (part_answers topics size ms) ≡ map (answer_of topics) ms
joined-answers topics size [] some = refl
joined-answers topics size (m ∷ ms) some =
    let n = parts_of size m.payload in
    ap (answers_of topics) (front topics size m ms)
    ∙ ap (map (joined topics)) (cut-at topics size n m (part_answers topics size ms) (omega arith) (begins topics size ms))
    ∙ ap (λ (a : Answer). a ∷ answers_of topics (part_answers topics size ms)) (joined-at topics size n m (omega arith) (parts-joined size m.payload some))
    ∙ ap (λ (more : List Answer). answer_of topics m ∷ more) (joined-answers topics size ms some)

-- it is of this message, and its number is at least this one
abbrev IsOf : Message → ℕ → PartAnswer → Type 0
IsOf m least a = (a.file ≡ m.file) × (a.line ≡ m.line) × (least ≤ a.part)

of-message : (topics : List (List ℕ × Kind)) (size n : ℕ) (m : Message) (a k : ℕ) → All (IsOf m a) (answers_at topics size n m (range_with_len a k))
of-message topics size n m a zero = All-nil (IsOf m a)
of-message topics size n m a (suc k) =
    All-cons (IsOf m a) (part_answer topics (part_with size n m a)) (answers_at topics size n m (range_with_len (a + 1) k)) (refl, refl, omega arith)
    (All-weaker (IsOf m (a + 1)) (IsOf m a) (λ x h. (h.0, h.1, omega (arith, h.2))) (answers_at topics size n m (range_with_len (a + 1) k))
    (of-message topics size n m (a + 1) k))

message-ascends : (topics : List (List ℕ × Kind)) (size n : ℕ) (m : Message) (a k : ℕ)
    → Ascends position_of_part_answer (answers_at topics size n m (range_with_len a k))
message-ascends topics size n m a zero = tt
message-ascends topics size n m a (suc k) =
    let first = part_answer topics (part_with size n m a) in (
      All-weaker (IsOf m (a + 1)) (λ (z : PartAnswer). IsBefore (position_of_part_answer first) (position_of_part_answer z))
          (λ z h. inr (sym h.0, inr (sym h.1, omega (arith, h.2)))) (answers_at topics size n m (range_with_len (a + 1) k))
          (of-message topics size n m (a + 1) k),
      message-ascends topics size n m (a + 1) k,
    )

-- it is of a message behind this one
abbrev IsBehind : Message → PartAnswer → Type 0
IsBehind m a = (m.file < a.file) ⊎ ((m.file ≡ a.file) × (m.line < a.line))

behind-message : (m o : Message) → IsBefore (position_of m) (position_of o) → (a : PartAnswer) → IsOf o 1 a → IsBehind m a
behind-message m o (inl less) a of = inl (omega (arith, less, of.0))
behind-message m o (inr (file, inl less)) a of = inr (file ∙ sym of.0, omega (arith, less, of.1))
behind-message m o (inr (file, inr (line, less))) a of = absurd (omega (arith, less))

all-behind : (topics : List (List ℕ × Kind)) (size : ℕ) (m : Message) (ms : List Message) → All (λ o. IsBefore (position_of m) (position_of o)) ms
    → All (IsBehind m) (part_answers topics size ms)
all-behind topics size m [] later = All-nil (IsBehind m)
all-behind topics size m (o ∷ os) later =
    let n = parts_of size o.payload in
    let first = All-head (λ (o : Message). IsBefore (position_of m) (position_of o)) o os later in
    subst (All (IsBehind m)) (sym (front topics size o os))
    (All-append (IsBehind m) (answers_at topics size n o (range_with_len 1 n)) (part_answers topics size os)
    (All-weaker (IsOf o 1) (IsBehind m) (behind-message m o first) (answers_at topics size n o (range_with_len 1 n)) (of-message topics size n o 1 n))
    (all-behind topics size m os (All-tail (λ (o : Message). IsBefore (position_of m) (position_of o)) o os later)))

-- the parts of messages that ascend do
pub parts-ascend : (topics : List (List ℕ × Kind)) (size : ℕ) (ms : List Message) → Ascends position_of ms
    → Ascends position_of_part_answer (part_answers topics size ms)
parts-ascend topics size [] up = tt
parts-ascend topics size (m ∷ ms) up =
    let n = parts_of size m.payload in
    let own = answers_at topics size n m (range_with_len 1 n) in
    let others = part_answers topics size ms in
    let behind = all-behind topics size m ms up.0 in
    let across : (x : PartAnswer) → IsOf m 1 x → All (λ y. IsBefore (position_of_part_answer x) (position_of_part_answer y)) others = λ x of.
    All-weaker (IsBehind m) (λ (y : PartAnswer). IsBefore (position_of_part_answer x) (position_of_part_answer y)) (λ y h. before m x y of h) others behind in
    subst (Ascends position_of_part_answer) (sym (front topics size m ms))
    (ascends-append position_of_part_answer own others (message-ascends topics size n m 1 n) (parts-ascend topics size ms up.1)
    (All-weaker (IsOf m 1) (λ (x : PartAnswer). All (λ y. IsBefore (position_of_part_answer x) (position_of_part_answer y)) others) across own
    (of-message topics size n m 1 n))) where
      before : (m : Message) (x y : PartAnswer) → IsOf m 1 x → IsBehind m y → IsBefore (position_of_part_answer x) (position_of_part_answer y)
      before m x y of (inl less) = inl (omega (arith, less, of.0))
      before m x y of (inr (file, less)) = inr (of.0 ∙ file, inl (omega (arith, less, of.1)))
