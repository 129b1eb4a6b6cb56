-- Lists of frames that grow at their end as a block is carved, and shrink there as it is merged.
use Rattle.std.proofs.Common.{◌≡◌, ℕ, zero, suc, ◌+◌, ◌-◌, ◌*◌, ◌<◌, ◌≤◌, List, [], ◌∷◌, ◌++◌, length, take, drop, get_or, replicate, All, refl, sym, ap, subst, ◌∙◌, arith, inl, inr, length-append}
use Rattle.std.proofs.lemmas.Bool.{cases_lt}
use Rattle.std.proofs.lemmas.List.{drop-replicate, take-replicate, length-replicate}
use Rattle.std.proofs.lemmas.List.Elements.{All-push}
use denote.RawPtr.{Ptr, block_ptr, null_ptr, ◌+ₚ◌}
use Rattle.scq_block.specs.declared.frame.Frame.{Frame}
use Rattle.scq_block.specs.declared.span.Span.{Span}
use Rattle.scq_block.specs.Exports.{frame_start, bytes_of, IsPlaced, AreInOrder, AreFramesFrom}

-- past a place and past the next is past both
pub past_both : (p : Ptr) (m n : ℕ) → p +ₚ m +ₚ n ≡ p +ₚ (m + n)
past_both (block_ptr b o) m n = let same : o + m + n ≡ o + (m + n) = omega arith in ap (block_ptr b) same
past_both null_ptr m n = refl

-- an element of a list with one more at its end
get_or-front : (fs : List Frame) (f d : Frame) (k : ℕ) → k < length fs → get_or (fs ++ f ∷ []) k d ≡ get_or fs k d
get_or-front [] f d k h = absurd (omega arith)
get_or-front (x ∷ fs) f d zero h = refl
get_or-front (x ∷ fs) f d (suc k) h = get_or-front fs f d k (omega arith)

get_or-end : (fs : List Frame) (f d : Frame) → get_or (fs ++ f ∷ []) (length fs) d ≡ f
get_or-end [] f d = refl
get_or-end (x ∷ fs) f d = get_or-end fs f d

longer : (fs : List Frame) (f : Frame) → length (fs ++ f ∷ []) ≡ length fs + 1
longer fs f = length-append fs (f ∷ [])

longer_by : (fs : List Frame) (f : Frame) (n : ℕ) → length (fs ++ f ∷ []) * n ≡ length fs * n + n
longer_by fs f n =
    let more : (length fs + 1) * n ≡ length fs * n + n = grind arith in
    ap (λ k. k * n) (longer fs f) ∙ more

pub AreInOrder-front : (fs : List Frame) (f : Frame) → AreInOrder (fs ++ f ∷ []) → AreInOrder fs
AreInOrder-front fs f all k d h = sym (ap (λ g. g.number) (get_or-front fs f d k h)) ∙ all k d (omega (arith, longer fs f))

pub AreInOrder-end : (fs : List Frame) (f : Frame) → AreInOrder (fs ++ f ∷ []) → f.number ≡ length fs
AreInOrder-end fs f all = sym (ap (λ g. g.number) (get_or-end fs f f)) ∙ all (length fs) f (omega (arith, longer fs f))

pub AreInOrder-push : (fs : List Frame) (f : Frame) → AreInOrder fs → f.number ≡ length fs → AreInOrder (fs ++ f ∷ [])
AreInOrder-push fs f all is k d h = elim (cases_lt k (length fs)) [
  | inl below ↦ ap (λ g. g.number) (get_or-front fs f d k below) ∙ all k d below
  | inr above ↦ let last : k ≡ length fs = omega (arith, longer fs f) in
      ap (λ j. (get_or (fs ++ f ∷ []) j d).number) last ∙ ap (λ g. g.number) (get_or-end fs f d) ∙ is ∙ sym last
]

-- one more frame, of the next number
pub AreDealt-push : (start : Ptr) (n cap : ℕ) (fs : List Frame) (f : Frame) → AreFramesFrom start n cap fs → f.number ≡ n
    → IsPlaced start cap f → bytes_of f ≡ replicate cap 0 → AreFramesFrom start (n + 1) cap (fs ++ f ∷ [])
AreDealt-push start n cap fs f all is at clear = record {
  count = longer fs f ∙ ap (λ k. k + 1) all.count;
  ordered = AreInOrder-push fs f all.ordered (is ∙ sym all.count);
  placed = All-push (IsPlaced start cap) fs f all.placed at;
  zero = All-push (λ g. bytes_of g ≡ replicate cap 0) fs f all.zero clear;
}

-- the frames that were dealt, and what is left for those from `number` on
pub record IsDealing (start : Ptr) (n cap number capacity : ℕ) (fs : List Frame) (rest : Span) : Type 0 where
  pub dealt : AreFramesFrom start number cap fs
  pub below : number < n
  pub room : n ≤ capacity
  pub from : rest.start ≡ start +ₚ number * cap
  pub zero : rest.bytes ≡ replicate ((n - number) * cap) 0

-- the next frame is cut off what is left, which has one more behind it
pub IsDealing-next : (start : Ptr) (n cap number capacity : ℕ) (fs : List Frame) (rest front back : Span) (f : Frame)
    → IsDealing start n cap number capacity fs rest → number + 1 < n
    → (front.start ≡ rest.start) × (front.bytes ≡ take cap rest.bytes) × (back.start ≡ rest.start +ₚ cap) × (back.bytes ≡ drop cap rest.bytes)
    → (f.number ≡ number) × (bytes_of f ≡ front.bytes) × (frame_start f ≡ front.start)
    → IsDealing start n cap (number + 1) capacity (fs ++ f ∷ []) back
IsDealing-next start n cap number capacity fs rest front back f was below cut is =
    let left = n - (number + 1) in
    let one_more : n - number ≡ left + 1 = omega arith in
    let more : (left + 1) * cap ≡ left * cap + cap = grind arith in
    let after : (number + 1) * cap ≡ number * cap + cap = grind arith in
    let whole : (n - number) * cap ≡ left * cap + cap = ap (λ k. k * cap) one_more ∙ more in
    let fewer : (n - number) * cap - cap ≡ left * cap = omega (arith, whole) in
    let clear = is.1 ∙ cut.1 ∙ ap (take cap) was.zero ∙ take-replicate cap ((n - number) * cap) 0 (omega (arith, whole)) in
    record {
      dealt = AreDealt-push start number cap fs f was.dealt is.0
          (record { at = is.2 ∙ cut.0 ∙ was.from ∙ ap (λ k. start +ₚ k * cap) (sym is.0); size = ap length clear ∙ length-replicate cap 0 }) clear;
      below = below;
      room = was.room;
      from = cut.2 ∙ ap (λ p. p +ₚ cap) was.from ∙ past_both start (number * cap) cap ∙ ap (λ k. start +ₚ k) (sym after);
      zero = cut.3 ∙ ap (drop cap) was.zero ∙ drop-replicate cap ((n - number) * cap) 0 ∙ ap (λ k. replicate k 0) fewer;
    }

-- `rest` begins where the frames of the list end, and with their bytes it has `len` in all
pub record IsGathering (start : Ptr) (len cap : ℕ) (fs : List Frame) (rest : Span) : Type 0 where
  pub ordered : AreInOrder fs
  pub placed : All (IsPlaced start cap) fs
  pub from : rest.start ≡ start +ₚ length fs * cap
  pub all : length fs * cap + length rest.bytes ≡ len

All-front : (start : Ptr) (cap : ℕ) (fs : List Frame) (f : Frame) → All (IsPlaced start cap) (fs ++ f ∷ []) → All (IsPlaced start cap) fs
All-front start cap fs f all k d h = subst (IsPlaced start cap) (get_or-front fs f d k h) (all k d (omega (arith, longer fs f)))

pub All-end : (start : Ptr) (cap : ℕ) (fs : List Frame) (f : Frame) → All (IsPlaced start cap) (fs ++ f ∷ []) → IsPlaced start cap f
All-end start cap fs f all = subst (IsPlaced start cap) (get_or-end fs f f) (all (length fs) f (omega (arith, longer fs f)))

-- the last frame of the list lies where its place says
end_at : (start : Ptr) (cap : ℕ) (fs : List Frame) (f : Frame) → AreInOrder (fs ++ f ∷ [])
    → All (IsPlaced start cap) (fs ++ f ∷ []) → frame_start f ≡ start +ₚ length fs * cap
end_at start cap fs f ordered placed = (All-end start cap fs f placed).at ∙ ap (λ k. start +ₚ k * cap) (AreInOrder-end fs f ordered)

-- the last frame alone
pub IsGathering-first : (start : Ptr) (len cap : ℕ) (fs : List Frame) (f : Frame) (rest : Span)
    → AreInOrder (fs ++ f ∷ []) → All (IsPlaced start cap) (fs ++ f ∷ []) → length (fs ++ f ∷ []) * cap ≡ len
    → (rest.start ≡ frame_start f) × (rest.bytes ≡ bytes_of f) → IsGathering start len cap fs rest
IsGathering-first start len cap fs f rest ordered placed all is =
    let size = (All-end start cap fs f placed).size in
    record {
      ordered = AreInOrder-front fs f ordered;
      placed = All-front start cap fs f placed;
      from = is.0 ∙ end_at start cap fs f ordered placed;
      all = ap (λ k. length fs * cap + k) (ap length is.1 ∙ size) ∙ sym (longer_by fs f cap) ∙ all;
    }

-- what was gathered begins where the last frame ends
pub next_to : (start : Ptr) (len cap : ℕ) (fs : List Frame) (f : Frame) (rest : Span) → IsGathering start len cap (fs ++ f ∷ []) rest
    → rest.start ≡ frame_start f +ₚ length (bytes_of f)
next_to start len cap fs f rest g =
    let size = (All-end start cap fs f g.placed).size in
    g.from ∙ ap (λ k. start +ₚ k) (longer_by fs f cap) ∙ sym (past_both start (length fs * cap) cap)
    ∙ (λ i. sym (end_at start cap fs f g.ordered g.placed) i +ₚ sym size i)

-- one more frame, the last of the list
pub IsGathering-next : (start : Ptr) (len cap : ℕ) (fs : List Frame) (f : Frame) (rest both : Span)
    → IsGathering start len cap (fs ++ f ∷ []) rest
    → (both.start ≡ frame_start f) × (both.bytes ≡ bytes_of f ++ rest.bytes) → IsGathering start len cap fs both
IsGathering-next start len cap fs f rest both g is =
    let size = (All-end start cap fs f g.placed).size in
    let joined : length both.bytes ≡ cap + length rest.bytes = ap length is.1 ∙ length-append (bytes_of f) rest.bytes ∙ ap (λ k. k + length rest.bytes) size in
    record {
      ordered = AreInOrder-front fs f g.ordered;
      placed = All-front start cap fs f g.placed;
      from = is.0 ∙ end_at start cap fs f g.ordered g.placed;
      all = omega (arith, longer_by fs f cap, joined, g.all);
    }
