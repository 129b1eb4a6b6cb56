-- Parts of a room, and the line feeds in them.
use Rattle.std.proofs.Common.{◌≡◌, ℕ, ◌+◌, ◌-◌, ◌<◌, ◌≤◌, List, ◌++◌, length, take, drop, get_or, Some, None, sym, ◌∙◌, ap, ⊎_elim, arith, length-drop}
use Rattle.std.specs.Prelude.{slice_range}
use Rattle.std.proofs.lemmas.List.{get_or-take, get_or-drop, drop-drop, drop-take, length-take, take-take}
use Rattle.std.proofs.Math.Seq.{take-add}
use Rattle.std.proofs.lemmas.Bool.{cases_lt, eqb-true, eq-eqb}
use Rattle.std.proofs.lemmas.Grind.{common_steps}
use Rattle.memchr.specs.Find.{IsFirstByte, is_byte}
use Rattle.scq_frames.specs.Exports.{HasNoLineFeed, EndsAt}

module _ (xs : List ℕ) (a b : ℕ) where
  pub get_or-part : (k : ℕ) → a + k < b → get_or (slice_range xs a b) k 0 ≡ get_or xs (a + k) 0
  get_or-part k h = get_or-take (b - a) (drop a xs) k 0 (omega arith) ∙ get_or-drop a xs k 0

  pub length-part : b ≤ length xs → length (slice_range xs a b) ≡ b - a
  length-part h = omega (arith, length-take (b - a) (drop a xs), length-drop a xs)

  pub drop-part : (n : ℕ) → a + n ≤ b → drop n (slice_range xs a b) ≡ slice_range xs (a + n) b
  drop-part n h =
      let parts : b - a ≡ n + (b - (a + n)) = omega arith in
      ap (λ (k : ℕ). drop n (take k (drop a xs))) parts ∙ drop-take n (b - (a + n)) (drop a xs) ∙ ap (take (b - (a + n))) (grind (arith, common_steps))

  pub take-part : (n : ℕ) → a + n ≤ b → take n (slice_range xs a b) ≡ slice_range xs a (a + n)
  take-part n h =
      let less : n ≤ b - a = omega arith in
      let same : a + n - a ≡ n = omega arith in
      take-take n (b - a) (drop a xs) less ∙ ap (λ (k : ℕ). take k (drop a xs)) (sym same)

  -- a search that found nothing
  pub clear_from_none : b ≤ length xs → IsFirstByte (is_byte 10) (slice_range xs a b) None → HasNoLineFeed xs a b
  clear_from_none within none k low high is =
      let inside : k - a < length (slice_range xs a b) = omega (arith, length-part within) in
      let reads : get_or (slice_range xs a b) (k - a) 0 ≡ get_or xs k 0 = get_or-part (k - a) (omega arith) ∙ ap (λ (i : ℕ). get_or xs i 0) (omega arith) in
      none (k - a) (omega arith) inside (eq-eqb _ 10 (reads ∙ is))

  -- a search that found the first one
  pub clear_from_some : b ≤ length xs → (n : ℕ) → IsFirstByte (is_byte 10) (slice_range xs a b) (Some n) → HasNoLineFeed xs a (a + n)
  clear_from_some within n found k low high is =
      let inside : a + n < b = omega (arith, length-part within, found.0.high) in
      let reads : get_or (slice_range xs a b) (k - a) 0 ≡ get_or xs k 0 = get_or-part (k - a) (omega arith) ∙ ap (λ (i : ℕ). get_or xs i 0) (omega arith) in
      found.0.before (k - a) (omega arith) (omega arith) (eq-eqb _ 10 (reads ∙ is))

  pub found_within : b ≤ length xs → (n : ℕ) → IsFirstByte (is_byte 10) (slice_range xs a b) (Some n) → a + n < b
  found_within within n found = omega (arith, length-part within, found.0.high)

  pub found_at : b ≤ length xs → (n : ℕ) → IsFirstByte (is_byte 10) (slice_range xs a b) (Some n) → get_or xs (a + n) 0 ≡ 10
  found_at within n found = sym (get_or-part n (found_within within n found)) ∙ eqb-true _ 10 found.1

  -- what is clear in the room is clear in its part
  pub clear_part : b ≤ length xs → HasNoLineFeed xs a b → HasNoLineFeed (slice_range xs a b) 0 (length (slice_range xs a b))
  clear_part within clear k low high is =
      let inside : a + k < b = omega (arith, length-part within) in
      clear (a + k) (omega arith) inside (sym (get_or-part k inside) ∙ is)

  -- and the other way round
  pub clear_from_part : b ≤ length xs → HasNoLineFeed (slice_range xs a b) 0 (length (slice_range xs a b)) → HasNoLineFeed xs a b
  clear_from_part within clear k low high is =
      clear (k - a) (omega arith) (omega (arith, length-part within, low, high))
      (get_or-part (k - a) (omega arith) ∙ ap (λ (i : ℕ). get_or xs i 0) (omega arith) ∙ is)

  -- the first line feed of the room from a on ends the first line of its part
  pub ends_part : b ≤ length xs → (n : ℕ) → a ≤ n → n < b → HasNoLineFeed xs a n → get_or xs n 0 ≡ 10 → EndsAt (slice_range xs a b) (n - a)
  ends_part within n low high clear is = record {
    within = omega (arith, length-part within);
    line_feed = get_or-part (n - a) (omega arith) ∙ ap (λ (i : ℕ). get_or xs i 0) (omega arith) ∙ is;
    before = λ k from to at. clear (a + k) (omega arith) (omega arith) (sym (get_or-part k (omega arith)) ∙ at);
  }

-- two clear stretches
pub clear-append : (xs : List ℕ) (a b c : ℕ) → HasNoLineFeed xs a b → HasNoLineFeed xs b c → HasNoLineFeed xs a c
clear-append xs a b c one two k low high is =
    ⊎_elim (λ (h : k < b). one k low h is) (λ (h : b ≤ k). two k h high is) (cases_lt k b)

-- a part lies in what stands before its end
pub part-take : (xs : List ℕ) (a b : ℕ) → a ≤ b → slice_range xs a b ≡ drop a (take b xs)
part-take xs a b h =
    let end : a + (b - a) ≡ b = omega arith in
    sym (drop-take a (b - a) xs) ∙ ap (λ (k : ℕ). drop a (take k xs)) end

pub part-append : (xs : List ℕ) (a b c : ℕ) → a ≤ b → b ≤ c → slice_range xs a c ≡ slice_range xs a b ++ slice_range xs b c
part-append xs a b c low high =
    let sum : c - a ≡ (b - a) + (c - b) = omega arith in
    let start : a + (b - a) ≡ b = omega arith in
    ap (λ (k : ℕ). take k (drop a xs)) sum ∙ take-add (b - a) (c - b) (drop a xs)
    ∙ ap (λ l. slice_range xs a b ++ take (c - b) l) (drop-drop (b - a) a xs ∙ ap (λ (k : ℕ). drop k xs) start)

-- the held bytes after they moved, and after something was read behind them
pub part_again : (xs ys zs : List ℕ) (a b d : ℕ) → slice_range ys d (d + (b - a)) ≡ slice_range xs a b → take (d + (b - a)) zs ≡ take (d + (b - a)) ys
    → slice_range zs d (d + (b - a)) ≡ slice_range xs a b
part_again xs ys zs a b d moved same =
    part-take zs d (d + (b - a)) (omega arith) ∙ ap (drop d) same ∙ sym (part-take ys d (d + (b - a)) (omega arith)) ∙ moved

-- what was clear is clear where it stands then
pub clear_again : (xs zs : List ℕ) (a s b d : ℕ) → slice_range zs d (d + (b - a)) ≡ slice_range xs a b → a ≤ s → s ≤ b
    → HasNoLineFeed xs a s → HasNoLineFeed zs d (d + (s - a))
clear_again xs zs a s b d same low high clear k from to is =
    let at : d + (k - d) ≡ k = omega arith in
    let reads : get_or xs (a + (k - d)) 0 ≡ get_or zs k 0 =
    sym (get_or-part xs a b (k - d) (omega arith)) ∙ ap (λ l. get_or l (k - d) 0) (sym same)
    ∙ get_or-part zs d (d + (b - a)) (k - d) (omega arith) ∙ ap (λ (i : ℕ). get_or zs i 0) at in
    clear (a + (k - d)) (omega arith) (omega arith) (reads ∙ is)

-- a part with its middle gone, after its front was moved up to the rest
pub part-cut : (xs ys : List ℕ) (a from to b : ℕ) → from ≤ to → a + to ≤ b
    → slice_range ys (a + (to - from)) (a + (to - from) + from) ≡ slice_range xs a (a + from)
    → drop (a + (to - from) + from) ys ≡ drop (a + (to - from) + from) xs
    → slice_range ys (a + (to - from)) b ≡ take from (slice_range xs a b) ++ drop to (slice_range xs a b)
part-cut xs ys a from to b up within moved behind =
    let start : ℕ = a + (to - from) in
    let rest : start + from ≡ a + to = omega (arith, up) in
    part-append ys start (start + from) b (omega arith) (omega (arith, rest, within))
    ∙ ap (λ (l : List ℕ). l ++ slice_range ys (start + from) b) (moved ∙ sym (take-part xs a b from (omega (arith, up, within))))
    ∙ ap (λ (l : List ℕ). take from (slice_range xs a b) ++ take (b - (start + from)) l) behind
    ∙ ap (λ (n : ℕ). take from (slice_range xs a b) ++ slice_range xs n b) rest
    ∙ ap (λ (l : List ℕ). take from (slice_range xs a b) ++ l) (sym (drop-part xs a b to within))
