-- Where all parts of each message are there, the answers to the messages stand in order: so each message has one.
use Rattle.std.proofs.Common.{◌≡◌, ◌∙◌, refl, sym, ap, subst, inl, inr, arith, zero, suc, ℕ, ◌+◌, ◌<◌, ◌⊎◌, List, [], ◌∷◌, map, cond}
use Rattle.std.specs.Prelude.{slice_index_or}
use Rattle.std.specs.List.{All, Contains}
use Rattle.std.specs.List.Sorted.{IsPermutation}
use Rattle.std.proofs.lemmas.Bool.Decides.{eqb_tells}
use Rattle.std.proofs.lemmas.List.Elements.{All-nil, All-cons, All-map, All-weaker}
use Rattle.std.proofs.lemmas.List.Sorted.{All-permutation, Contains-permutation, IsPermutation-sym}
use Rattle.scq_topics.specs.declared.kind.Kind.{Kind}
use Rattle.scq_frames.specs.Exports.{IsNumbered}
use Rattle.scq_collect.specs.declared.answered.Answered.{Answered}
use Rattle.scq_collect.specs.Exports.{AreWhole, BeginsMessage, IsJoined, PartAnswer, answers_of, in_front, joined, messages_in_order, without_way}
use Rattle.scq_collect.specs.Exports.{IsBefore, StandInOrder, position_of_answer, position_of_part, Answer}
use Rattle.scq_collect.proofs.Merged.{merged-in-order}
use Rattle.scq_collect.proofs.Orders.{Ascends, ascends, before-before, contains-cases, contains-first}
use Rattle.scq_collect.proofs.Parted.{position_of_part_answer}

-- the first message of some parts, and the others, which stand behind the first part
record Cut (topics : List (List ℕ × Kind)) (x : PartAnswer) (xs : List PartAnswer) : Type 0 where
  own : List PartAnswer
  others : List (List PartAnswer)
  is : messages_in_order (x ∷ xs) ≡ (x ∷ own) ∷ others
  up : Ascends position_of_answer (map (joined topics) others)
  past : All (λ a. IsBefore (position_of_part_answer x) (position_of_answer a)) (map (joined topics) others)

-- a message stands where its first part does
position-first : (topics : List (List ℕ × Kind)) (x : PartAnswer) (own : List PartAnswer) → position_of_answer (joined topics (x ∷ own)) ≡ (x.file, x.line, 1)
position-first topics x [] = refl
position-first topics x (y ∷ ys) = refl

position-of-first : (topics : List (List ℕ × Kind)) (x : PartAnswer) (own : List PartAnswer) → x.part ≡ 1
    → position_of_part_answer x ≡ position_of_answer (joined topics (x ∷ own))
position-of-first topics x own one = ap (λ n. (x.file, x.line, n)) one ∙ sym (position-first topics x own)

-- the cut with one part more in front
cut-more : (topics : List (List ℕ × Kind)) (x y : PartAnswer) (ys : List PartAnswer) → IsBefore (position_of_part_answer x) (position_of_part_answer y) → Cut topics y ys
    → Cut topics x (y ∷ ys)
cut-more topics x y ys before rest = elim (eqb_tells y.part 1) [
  | inl first ↦
      let position = position-of-first topics y rest.own first.1 in
      record {
        own = [];
        others = (y ∷ rest.own) ∷ rest.others;
        is = ap (λ t. cond t ((x ∷ []) ∷ messages_in_order (y ∷ ys)) (in_front x (messages_in_order (y ∷ ys)))) first.0
            ∙ ap (λ (gs : List (List PartAnswer)). (x ∷ []) ∷ gs) rest.is;
        up = (
          subst (λ p. All (λ (a : Answer). IsBefore p (position_of_answer a)) (map (joined topics) rest.others)) position rest.past,
          rest.up,
        );
        past = All-cons (λ (a : Answer). IsBefore (position_of_part_answer x) (position_of_answer a)) (joined topics (y ∷ rest.own)) (map (joined topics) rest.others)
            (subst (λ p. IsBefore (position_of_part_answer x) p) position before) behind;
      }
  | inr other ↦
      record {
        own = y ∷ rest.own;
        others = rest.others;
        is = ap (λ t. cond t ((x ∷ []) ∷ messages_in_order (y ∷ ys)) (in_front x (messages_in_order (y ∷ ys)))) other.0 ∙ ap (in_front x) rest.is;
        up = rest.up;
        past = behind;
      }
]
  where
    behind : All (λ a. IsBefore (position_of_part_answer x) (position_of_answer a)) (map (joined topics) rest.others)
    behind =
        All-weaker (λ (a : Answer). IsBefore (position_of_part_answer y) (position_of_answer a)) (λ (a : Answer). IsBefore (position_of_part_answer x) (position_of_answer a))
        (λ a later. before-before (position_of_part_answer x) (position_of_part_answer y) (position_of_answer a) before later) (map (joined topics) rest.others) rest.past

cut-up : (topics : List (List ℕ × Kind)) (x : PartAnswer) (xs : List PartAnswer) → Ascends position_of_part_answer (x ∷ xs) → Cut topics x xs
cut-up topics x [] up = record {
  own = [];
  others = [];
  is = refl;
  up = tt;
  past = All-nil (λ (a : Answer). IsBefore (position_of_part_answer x) (position_of_answer a));
}
cut-up topics x (y ∷ ys) up = cut-more topics x y ys (up.0 zero y (omega arith)) (cut-up topics y ys up.1)

answers-up : (topics : List (List ℕ × Kind)) (xs : List PartAnswer) → Ascends position_of_part_answer xs → BeginsMessage xs
    → Ascends position_of_answer (answers_of topics xs)
answers-up topics [] up begins = tt
answers-up topics (x ∷ xs) up begins =
    let cut = cut-up topics x xs up in
    subst (λ (gs : List (List PartAnswer)). Ascends position_of_answer (map (joined topics) gs)) (sym cut.is)
    (subst (λ p. All (λ (a : Answer). IsBefore p (position_of_answer a)) (map (joined topics) cut.others)) (position-of-first topics x cut.own begins) cut.past, cut.up)

-- what ascends is in order
up-in-order : {A : Type 0} (position : A → ℕ × ℕ × ℕ) (xs : List A) → Ascends position xs → StandInOrder position xs
up-in-order position [] up k d less = absurd (omega arith)
up-in-order position (x ∷ xs) up zero d less = up.0 zero d (omega arith)
up-in-order {A} position (x ∷ xs) up (suc k) d less =
    let next : suc k + 1 ≡ suc (k + 1) = omega arith in
    subst (λ j. IsBefore (position (slice_index_or xs k d)) (position (slice_index_or (x ∷ xs) j d))) (sym next)
    (up-in-order position xs up.1 k d (omega arith))

-- members without their ways ascend as they do
plain-up : (xs : List Answered) → Ascends position_of_part xs → Ascends position_of_part_answer (map without_way xs)
plain-up [] up = tt
plain-up (x ∷ xs) up = (
  All-map (λ (z : PartAnswer). IsBefore (position_of_part x) (position_of_part_answer z)) without_way xs up.0,
  plain-up xs up.1,
)

-- the first of whole messages is a part 1
whole-begins : (given all : List Answered) → AreWhole given → IsPermutation given all → Ascends position_of_part all → BeginsMessage (map without_way all)
whole-begins given [] whole same up = tt
whole-begins given (x ∷ xs) whole same up =
    let numbered : IsNumbered x.part x.parts = All-permutation (λ (a : Answered). IsNumbered a.part a.parts) given (x ∷ xs) same whole.numbered zero x (omega arith) in
    let has = whole.each x 1 (Contains-permutation (x ∷ xs) given x (IsPermutation-sym given (x ∷ xs) same) (contains-first x xs))
    (record { first = omega arith; last = omega (arith, numbered.first, numbered.last) }) in
    at has.0 has.2 numbered.first (contains-cases x has.0 xs (Contains-permutation given (x ∷ xs) has.0 same has.1)) where
      at : (b : Answered) → position_of_part b ≡ (x.file, x.line, 1) → 0 < x.part → (x ≡ b) ⊎ Contains xs b → x.part ≡ 1
      at b position some (inl e) = ap (λ (a : Answered). a.part) e ∙ ap (λ p. p.2) position
      at b position some (inr (k, within, is)) =
          let later : IsBefore (position_of_part x) (position_of_part b) = subst (λ (a : Answered). IsBefore (position_of_part x) (position_of_part a)) is (up.0 k b within) in
          let there : IsBefore (x.file, x.line, x.part) (x.file, x.line, 1) = subst (λ p. IsBefore (position_of_part x) p) position later in
          absurd (late there some) where
            late : IsBefore (x.file, x.line, x.part) (x.file, x.line, 1) → 0 < x.part → ⊥
            late (inl less) some = omega (arith, less)
            late (inr (file, inl less)) some = omega (arith, less)
            late (inr (file, inr (line, less))) some = omega (arith, less, some)

pub joined-in-order : (topics : List (List ℕ × Kind)) (given : List Answered) (wholes : List Answer) → IsJoined topics given wholes → AreWhole given
    → StandInOrder position_of_answer wholes
joined-in-order topics given wholes j whole =
    let up : Ascends position_of_part j.all = ascends position_of_part j.all (merged-in-order given j.all j.merged whole.apart) in
    subst (StandInOrder position_of_answer) (sym j.wholes_are)
    (up-in-order position_of_answer (answers_of topics (map without_way j.all))
    (answers-up topics (map without_way j.all) (plain-up j.all up) (whole-begins given j.all whole j.merged.same up)))
