-- Answers in blocks: none, one more, and a new block.
use Rattle.std.proofs.Common.{◌≡◌, ◌∙◌, true, ℕ, List, [], ◌∷◌, ◌++◌, refl, sym, ap, subst}
use Rattle.std.specs.Prelude.{flat_map}
use Rattle.std.specs.List.{AllZip}
use Rattle.std.proofs.lemmas.List.{append_assoc, append-nil}
use Rattle.std.proofs.lemmas.List.Elements.{All-append, All-cons, All-nil}
use Rattle.scq_collect.specs.declared.blocks.OwnBlock.{OwnBlock}
use Rattle.scq_collect.specs.Exports.{PartAnswer, IsCodable, answer_bytes, answers_bytes, AreInBlocks, HasAnswers, last_position, is_in}
use Rattle.scq_collect.proofs.InChunks.{flat-push}
use Rattle.scq_collect.proofs.LaidLaws.{zip-push}

pub bytes-more : (before : ℕ × ℕ) (answers : List PartAnswer) (a : PartAnswer)
    → answers_bytes before (answers ++ a ∷ []) ≡ answers_bytes before answers ++ answer_bytes (last_position before answers) a
bytes-more before [] a = append-nil (answer_bytes before a)
bytes-more before (x ∷ more) a =
    ap (λ (l : List ℕ). answer_bytes before x ++ l) (bytes-more (x.file, x.line) more a)
    ∙ sym (append_assoc (answer_bytes before x) (answers_bytes (x.file, x.line) more) (answer_bytes (last_position (x.file, x.line) more) a))

behind-more : (before : ℕ × ℕ) (answers : List PartAnswer) (a : PartAnswer) → last_position before (answers ++ a ∷ []) ≡ (a.file, a.line)
behind-more before [] a = refl
behind-more before (x ∷ more) a = behind-more (x.file, x.line) more a

-- a block with no bytes has no answers
pub has-none : (block : OwnBlock) → block.bytes.items ≡ [] → HasAnswers block []
has-none block empty = record { bytes = empty; within = All-nil (λ (a : PartAnswer). is_in block.span a ≡ true) }

-- it has the bytes of one more
pub has-more : (before : ℕ × ℕ) (was : OwnBlock) (now : List ℕ) (answers : List PartAnswer) (a : PartAnswer) → now ≡ was.bytes.items ++ answer_bytes before a
    → HasAnswers was answers → before ≡ last_position (0, 0) answers → now ≡ answers_bytes (0, 0) (answers ++ a ∷ [])
has-more before was now answers a pushed has at =
    pushed ∙ ap (λ (l : List ℕ). l ++ answer_bytes before a) has.bytes
    ∙ ap (λ (p : ℕ × ℕ). answers_bytes (0, 0) answers ++ answer_bytes p a) at ∙ sym (bytes-more (0, 0) answers a)

pub none : (block : OwnBlock) → HasAnswers block [] → AreInBlocks [] block (0, 0) []
none block has = record { groups = []; last = []; each = tt; rest = has; at = refl; all = refl; codable = All-nil IsCodable }

pub one-more : (full : List OwnBlock) (block now : OwnBlock) (before : ℕ × ℕ) (answers : List PartAnswer) (a : PartAnswer) → AreInBlocks full block before answers
    → IsCodable a → ((own : List PartAnswer) → HasAnswers block own → before ≡ last_position (0, 0) own → HasAnswers now (own ++ a ∷ []))
    → AreInBlocks full now (a.file, a.line) (answers ++ a ∷ [])
one-more full block now before answers a held fits pushed = record {
  groups = held.groups;
  last = held.last ++ a ∷ [];
  each = held.each;
  rest = pushed held.last held.rest held.at;
  at = sym (behind-more (0, 0) held.last a);
  all = ap (λ (l : List PartAnswer). l ++ a ∷ []) held.all ∙ append_assoc (flat_map (λ group. group) held.groups) held.last (a ∷ []);
  codable = All-append IsCodable answers (a ∷ []) held.codable (All-cons IsCodable a [] fits (All-nil IsCodable));
}

-- the block joined those that are full, and an empty one stands in its place
pub block-begun : (olds news : List OwnBlock) (block begun : OwnBlock) (before : ℕ × ℕ) (answers : List PartAnswer) → news ≡ olds ++ block ∷ []
    → begun.bytes.items ≡ [] → AreInBlocks olds block before answers → AreInBlocks news begun (0, 0) answers
block-begun olds news block begun before answers kept empty held = record {
  groups = held.groups ++ held.last ∷ [];
  last = [];
  each = subst (λ (l : List OwnBlock). AllZip HasAnswers l (held.groups ++ held.last ∷ [])) (sym kept)
      (zip-push HasAnswers olds held.groups block held.last held.each held.rest);
  rest = has-none begun empty;
  at = refl;
  all = held.all ∙ sym (flat-push (λ (group : List PartAnswer). group) held.groups held.last)
      ∙ sym (append-nil (flat_map (λ group. group) (held.groups ++ held.last ∷ [])));
  codable = held.codable;
}
