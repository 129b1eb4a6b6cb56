-- Stretches of spans: those of all spans are of all members.
use Rattle.std.proofs.Common.{◌≡◌, ◌∙◌, refl, sym, ap, subst, arith, false, true, zero, suc, ℕ, ◌+◌, ◌<◌, ◌≤◌, List, [], ◌∷◌, ◌++◌, length, map, take}
use Rattle.std.specs.Prelude.{Err, IfOk, IsTrue, Ok, Result, flat_map, is_ok, slice_index_or}
use Rattle.std.specs.List.{All, filter}
use Rattle.std.proofs.lemmas.Grind.{flat_map-append}
use Rattle.std.proofs.lemmas.List.{get_or-map, length-map, take_more}
use Rattle.std.proofs.lemmas.List.Elements.{All-append, All-cons, All-filter, All-head, All-nil, All-tail}
use Rattle.std.proofs.lemmas.List.Sorted.{All-permutation}
use Rattle.scq_topics.specs.declared.kind.Kind.{Kind}
use Rattle.scq_word.specs.declared.NoMemory.{NoMemory}
use Rattle.scq_collect.specs.declared.answered.Answered.{Answered}
use Rattle.scq_collect.specs.declared.spans.Span.{Span}
use Rattle.scq_collect.specs.declared.spots.Spot.{Spot}
use Rattle.scq_collect.specs.declared.stretches.Stretch.{Stretch}
use Rattle.scq_collect.specs.Exports.{IsCodable, BeginsMessage, PartAnswer, answers_of, joined, messages_in_order, without_way, Answer, AreMadeOf}
use Rattle.scq_collect.specs.Exports.{AreOfMembers, AreStretchesOf, IsMadeOf, IsStretchOf, all_answers, AreNext, is_in, plain, spot_answer, AreTaken}
use Rattle.scq_collect.specs.Exports.{AreAnswersIn}
use Rattle.scq_collect.proofs.Cutting.{few-messages}
use Rattle.scq_collect.proofs.InChunks.{flat-push}
use Rattle.scq_collect.proofs.SpanLaws.{all-taken, answers-flat, answers-one, taken-append}

abbrev pub Made : Type 0
Made = Result Stretch NoMemory

-- it was made
abbrev pub WasMade : Made → Type 0
WasMade s = IsTrue (is_ok s)

not-made : (e : NoMemory) → WasMade (Err e) → ⊥
not-made e is =
    let clash : false ≡ true = is in
    absurd (cc)

-- the answers of each stretch that was made, and the parts that they come from
record Found (topics : List (List ℕ × Kind)) (answers : List PartAnswer) (cuts : List (List Span)) (made : List Made) : Type 0 where
  lists : List (List Answer)
  stretches : AreStretchesOf topics lists made
  parts : List (List PartAnswer)
  taken : All WasMade made → AreTaken answers (flat_map (λ cut. cut) cuts) parts
  are : All WasMade made → all_answers lists ≡ flat_map (answers_of topics) parts
  whole : All WasMade made → All (λ s. IfOk s (λ s. IsTrue s.whole)) made → All BeginsMessage parts

stretches-cons : (topics : List (List ℕ × Kind)) (own : List Answer) (lists : List (List Answer)) (s : Made) (made : List Made) → IfOk s (IsStretchOf topics own)
    → AreStretchesOf topics lists made → AreStretchesOf topics (own ∷ lists) (s ∷ made)
stretches-cons topics own lists s made first rest = record { count = ap (λ (n : ℕ). suc n) rest.count; each = at } where
  at : (n : ℕ) (d : Made) (e : List Answer) → n < length (s ∷ made)
      → IfOk (slice_index_or (s ∷ made) n d) (IsStretchOf topics (slice_index_or (own ∷ lists) n e))
  at zero d e less = first
  at (suc n) d e less = rest.each n d e (omega (arith, less))

made-tail : (topics : List (List ℕ × Kind)) (answers : List PartAnswer) (cut : List Span) (cuts : List (List Span)) (s : Made) (made : List Made)
    → AreMadeOf topics answers (cut ∷ cuts) (s ∷ made) → AreMadeOf topics answers cuts made
made-tail topics answers cut cuts s made are = record {
  count = omega (arith, are.count);
  each = λ n d e less. are.each (suc n) d e (omega (arith, less));
}

found : (topics : List (List ℕ × Kind)) (answers : List PartAnswer) (cuts : List (List Span)) (made : List Made) → AreMadeOf topics answers cuts made
    → Found topics answers cuts made
found topics answers [] [] are = record {
  lists = [];
  stretches = record { count = refl; each = λ n d e less. absurd (omega (arith, less)) };
  parts = [];
  taken = λ ok. tt;
  are = λ ok. refl;
  whole = λ ok whole. All-nil BeginsMessage;
}
found topics answers (cut ∷ cuts) (Ok s ∷ made) are =
    let first : IsMadeOf topics answers cut s = are.each zero (Ok s) cut (omega arith) in
    let rest = found topics answers cuts made (made-tail topics answers cut cuts (Ok s) made are) in
    let own : List Answer = flat_map (answers_of topics) first.parts in
    record {
      lists = own ∷ rest.lists;
      stretches = stretches-cons topics own rest.lists (Ok s) made first.made rest.stretches;
      parts = first.parts ++ rest.parts;
      taken = λ ok. taken-append answers cut (flat_map (λ cut. cut) cuts) first.parts rest.parts first.taken (rest.taken (All-tail WasMade (Ok s) made ok));
      are = λ ok. ap (λ (more : List Answer). own ++ more) (rest.are (All-tail WasMade (Ok s) made ok))
          ∙ sym (flat_map-append (answers_of topics) first.parts rest.parts);
      whole = λ ok whole. All-append BeginsMessage first.parts rest.parts
          (first.whole (All-head (λ (s : Made). IfOk s (λ s. IsTrue s.whole)) (Ok s) made whole))
          (rest.whole (All-tail WasMade (Ok s) made ok) (All-tail (λ (s : Made). IfOk s (λ s. IsTrue s.whole)) (Ok s) made whole));
    }
found topics answers (cut ∷ cuts) (Err e ∷ made) are =
    let rest = found topics answers cuts made (made-tail topics answers cut cuts (Err e) made are) in
    let none : All WasMade (Err e ∷ made) → ⊥ = λ ok. not-made e (All-head WasMade (Err e) made ok) in
    record {
      lists = [] ∷ rest.lists;
      stretches = stretches-cons topics [] rest.lists (Err e) made tt rest.stretches;
      parts = [];
      taken = λ ok. absurd (none ok);
      are = λ ok. absurd (none ok);
      whole = λ ok whole. absurd (none ok);
    }
found topics answers [] (s ∷ made) are = absurd (omega (arith, are.count))
found topics answers (cut ∷ cuts) [] are = absurd (omega (arith, are.count))

-- where a message begins with the first part of each span, or there is one span, they are those of all members
pub of-members : (topics : List (List ℕ × Kind)) (members : List Answered) (cuts : List (List Span)) (made : List Made)
    → AreMadeOf topics (map without_way members) cuts made → All IsCodable (map without_way members) → AreNext 0 (flat_map (λ cut. cut) cuts)
    → All (λ s. IfOk s (λ s. IsTrue s.whole)) made → AreOfMembers topics members made
of-members topics members cuts made are fits next whole =
    let f = found topics (map without_way members) cuts made are in
    record {
      lists = f.lists;
      stretches = f.stretches;
      joined = λ ok.
          let t = all-taken members (flat_map (λ cut. cut) cuts) f.parts fits next (f.taken ok) in
          record {
            all = t.0;
            merged = t.1;
            wholes_are = f.are ok ∙ answers-flat topics f.parts (f.whole ok whole) ∙ ap (answers_of topics) t.2;
          };
    }

pub of-members-in-one : (topics : List (List ℕ × Kind)) (members : List Answered) (span : Span) (made : List Made)
    → AreMadeOf topics (map without_way members) ((span ∷ []) ∷ []) made → All IsCodable (map without_way members) → AreNext 0 (span ∷ [])
    → AreOfMembers topics members made
of-members-in-one topics members span made are fits next =
    let answers : List PartAnswer = map without_way members in
    let f = found topics answers ((span ∷ []) ∷ []) made are in
    record {
      lists = f.lists;
      stretches = f.stretches;
      joined = λ ok.
          let t = all-taken members (span ∷ []) f.parts fits next (f.taken ok) in
          record {
            all = t.0;
            merged = t.1;
            wholes_are = f.are ok ∙ answers-one topics answers span f.parts (f.taken ok) ∙ ap (answers_of topics) t.2;
          };
    }

-- what holds of the topics of all answers holds of those of the spots that were taken
pub taken-known : (most : ℕ) (answers : List PartAnswer) (span : Span) (spots : List Spot) → AreAnswersIn answers span (plain spots)
    → All (λ a. a.topic ≤ most) answers → All (λ s. (spot_answer s).topic ≤ most) spots
taken-known most answers span spots taken known k d less =
    let P : PartAnswer → Type 0 = λ a. a.topic ≤ most in
    let all : All P (plain spots) =
    All-permutation P (filter (is_in span) answers) (plain spots) taken.same (All-filter (is_in span) P answers known) in
    subst P (get_or-map spot_answer spots k d (spot_answer d) less) (all k (spot_answer d) (omega (arith, less, length-map spots spot_answer)))

-- messages are no more than their parts
pub few-answers : (topics : List (List ℕ × Kind)) (own : List PartAnswer) → length (answers_of topics own) ≤ length own
few-answers topics own = omega (arith, length-map (messages_in_order own) (joined topics), few-messages own)

-- a stretch of one span more
pub made-more : (topics : List (List ℕ × Kind)) (answers : List PartAnswer) (spans : List Span) (n : ℕ) (d : Span) (was now : Stretch) (spots : List Spot)
    → n < length spans → IsMadeOf topics answers (take n spans) was → AreAnswersIn answers (slice_index_or spans n d) (plain spots)
    → ((own : List Answer) → IsStretchOf topics own was → IsStretchOf topics (own ++ answers_of topics (plain spots)) now)
    → (IsTrue now.whole → IsTrue was.whole × BeginsMessage (plain spots))
    → IsMadeOf topics answers (take (n + 1) spans) now
made-more topics answers spans n d was now spots less made taken added whole =
    let span : Span = slice_index_or spans n d in
    let own : List PartAnswer = plain spots in
    let had : List Answer = flat_map (answers_of topics) made.parts in
    let same : flat_map (answers_of topics) (made.parts ++ own ∷ []) ≡ had ++ answers_of topics own = flat-push (answers_of topics) made.parts own in
    let front : take (n + 1) spans ≡ take n spans ++ span ∷ [] = take_more spans n d less in
    record {
      parts = made.parts ++ own ∷ [];
      taken = subst (λ (ss : List Span). AreTaken answers ss (made.parts ++ own ∷ [])) (sym front)
          (taken-append answers (take n spans) (span ∷ []) made.parts (own ∷ []) made.taken (taken, tt));
      made = subst (λ (l : List Answer). IsStretchOf topics l now) (sym same) (added had made.made);
      whole = λ all.
          let both = whole all in
          All-append BeginsMessage made.parts (own ∷ []) (made.whole both.0) (All-cons BeginsMessage own [] both.1 (All-nil BeginsMessage));
    }
