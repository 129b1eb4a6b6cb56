-- The frames of one block: which are the same, that they are all, and that they lie apart.
use Rattle.std.proofs.Common.{◌≡◌, ℕ, ◌+◌, ◌*◌, ◌/◌, ◌%◌, ◌<◌, List, length, map, get_or, refl, sym, ap, ◌∙◌, subst, arith}
use Rattle.std.proofs.lemmas.List.{ext_get_or, get_or-map, length-map, map-id}
use Rattle.std.proofs.lemmas.List.FromFn.{fill_by_all}
use Rattle.std.proofs.lemmas.List.Sorted.{All-permutation, IsPermutation-refl, IsPermutation-map, IsPermutation-trans}
use Rattle.std.proofs.lemmas.Nat.{div-mul-add, mod-mul-add}
use Rattle.std.specs.List.{range_with_len}
use Rattle.std.specs.List.Sorted.{IsPermutation}
use denote.RawPtr.{Ptr, block_ptr, null_ptr, count_of, ◌+ₚ◌}
use Rattle.scq_block.specs.declared.block.Block.{Block}
use Rattle.scq_block.specs.declared.frame.Frame.{Frame}
use Rattle.scq_block.specs.Exports.{IsFrameOf, AreAllOf, IsCarved, frame_start, bytes_of, IsSame, IsPlaced, AreInOrder, AreFramesFrom}
use Rattle.scq_block.proofs.FrameLists.{past_both}
use Rattle.scq_block.proofs.Sorting.{first}

numbers_in_order : (fs : List Frame) → AreInOrder fs → map (λ f. f.number) fs ≡ range_with_len 0 (length fs)
numbers_in_order fs ordered =
    fill_by_all (λ k. k) (map (λ f. f.number) fs) (length fs) 0 (length-map fs (λ f. f.number))
    (λ k h. let d = first fs (omega arith) in get_or-map (λ f. f.number) fs k d 0 h ∙ ordered k d h)
    ∙ map-id (range_with_len 0 (length fs))

same_numbers : (fs gs : List Frame) → length gs ≡ length fs → ((k : ℕ) (d : Frame) → k < length fs → IsSame (get_or fs k d) (get_or gs k d))
    → map (λ f. f.number) fs ≡ map (λ f. f.number) gs
same_numbers fs gs long same =
    ext_get_or 0 (map (λ f. f.number) fs) (map (λ f. f.number) gs) (length-map fs (λ f. f.number) ∙ sym long ∙ sym (length-map gs (λ f. f.number))) (λ k h.
    let small : k < length fs = omega (arith, length-map fs (λ f. f.number)) in
    let d = first fs (omega arith) in
    get_or-map (λ f. f.number) fs k d 0 small ∙ (same k d small).number ∙ sym (get_or-map (λ f. f.number) gs k d 0 (omega (arith, long))))

-- what was dealt from the block's place on is what `carve` gives
pub carved : (b : Block) (start : Ptr) (fs : List Frame) → start ≡ b.shell.ptr → AreFramesFrom start b.count b.cap fs → IsCarved b.count b.cap b fs
carved b start fs is dealt = record {
  count = (refl, dealt.count);
  size = refl;
  all = record {
    own = λ k e h. record {
      number = omega (arith, dealt.ordered k e h, dealt.count);
      placed = subst (λ p. IsPlaced p b.cap (get_or fs k e)) is (dealt.placed k e h);
    };
    once = subst (IsPermutation (range_with_len 0 b.count))
        (sym (numbers_in_order fs dealt.ordered ∙ ap (range_with_len 0) dealt.count)) (IsPermutation-refl (range_with_len 0 b.count));
  };
  ordered = dealt.ordered;
  zero = dealt.zero;
}

module _ (b : Block) where
  pub own_from_same : (f g : Frame) → IsFrameOf b f → IsSame f g → IsFrameOf b g
  own_from_same f g own same = record {
    number = omega (arith, own.number, same.number);
    placed = record {
      at = sym same.start ∙ own.placed.at ∙ ap (λ k. b.shell.ptr +ₚ k * b.cap) same.number;
      size = sym same.size ∙ own.placed.size;
    };
  }

  pub all_from_permutation : (fs gs : List Frame) → AreAllOf b fs → IsPermutation fs gs → AreAllOf b gs
  all_from_permutation fs gs all moved = record {
    own = All-permutation (IsFrameOf b) fs gs moved all.own;
    once = IsPermutation-trans (range_with_len 0 b.count) (map (λ f. f.number) fs) (map (λ f. f.number) gs) all.once
        (IsPermutation-map (λ f. f.number) fs gs moved);
  }

  pub all_from_same : (fs gs : List Frame) → AreAllOf b fs → length gs ≡ length fs
      → ((k : ℕ) (d : Frame) → k < length fs → IsSame (get_or fs k d) (get_or gs k d)) → AreAllOf b gs
  all_from_same fs gs all long same = record {
    own = λ k d h. own_from_same (get_or fs k d) (get_or gs k d) (all.own k d (omega (arith, long))) (same k d (omega (arith, long)));
    once = subst (IsPermutation (range_with_len 0 b.count)) (same_numbers fs gs long same) all.once;
  }

-- a pointer that is not null moves to two places by two numbers
past_is : (p : Ptr) (m n : ℕ) → ¬ (p ≡ null_ptr) → p +ₚ m ≡ p +ₚ n → m ≡ n
past_is (block_ptr a o) m n t e = omega (arith, ap count_of e)
past_is null_ptr m n t e = absurd (t refl)

-- a row and a column below the width are told by row * width + column
one_row : (m n c i j : ℕ) → i < c → j < c → m * c + i ≡ n * c + j → (m ≡ n) × (i ≡ j)
one_row m n c i j p q e =
    let rows = sym (div-mul-add m c i p) ∙ ap (λ k. k / c) e ∙ div-mul-add n c j q in
    let columns = sym (mod-mul-add m c i p) ∙ ap (λ k. k % c) e ∙ mod-mul-add n c j q in
    (rows, columns)

pub apart : (b : Block) (f g : Frame) (i j : ℕ) → IsFrameOf b f → IsFrameOf b g → i < length (bytes_of f) → j < length (bytes_of g)
    → frame_start f +ₚ i ≡ frame_start g +ₚ j → (f.number ≡ g.number) × (i ≡ j)
apart b f g i j own₁ own₂ p q e =
    let at₁ = past_both b.shell.ptr (f.number * b.cap) i in
    let at₂ = past_both b.shell.ptr (g.number * b.cap) j in
    let same = sym at₁ ∙ ap (λ r. r +ₚ i) (sym own₁.placed.at) ∙ e ∙ ap (λ r. r +ₚ j) own₂.placed.at ∙ at₂ in
    one_row f.number g.number b.cap i j (omega (arith, own₁.placed.size)) (omega (arith, own₂.placed.size))
    (past_is b.shell.ptr (f.number * b.cap + i) (g.number * b.cap + j) b.placed same)
