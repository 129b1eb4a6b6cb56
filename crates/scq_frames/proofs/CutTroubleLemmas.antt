-- The lines that count, and the trouble, of a text whose first topic was cut. The limit falls by what
-- is gone.
use Rattle.std.proofs.Common.{◌≡◌, ℕ, ◌+◌, ◌-◌, ◌<◌, ◌≤◌, Bool, true, false, cond, Option, Some, None, List, [], ◌∷◌, ◌++◌, length, take, map, refl, sym, ◌∙◌, ap, ⊎_elim, arith, length-append}
use Rattle.std.specs.Prelude.{nat_lt, ◌||◌}
use Rattle.std.specs.List.{All, list_any}
use Rattle.std.specs.Option.{option_or}
use Rattle.std.proofs.Math.Seq.{take-append-add}
use Rattle.std.proofs.lemmas.Bool.{cases_lt, lt-ltb, le-ltb}
use Rattle.std.proofs.lemmas.List.Elements.{All-head, All-tail}
use Rattle.scq_frames.specs.Exports.{Framed, messages_after, is_line_feed, LongPayload, ManyBytes, whole_lines, counted_bytes, first_too_long}
use Rattle.scq_frames.specs.Exports.{trouble_after}
use Rattle.scq_frames.specs.Trouble.{Trouble}
use Rattle.scq_frames.proofs.CutLemmas.{bare, bare-overlooks, Overlooks, IsTopic, messages-cut}

list_any-front : (a rest : List ℕ) → All (λ b. is_line_feed b ≡ false) a → list_any is_line_feed (a ++ rest) ≡ list_any is_line_feed rest
list_any-front [] rest clear = refl
list_any-front (x ∷ xs) rest clear =
    ap (λ (t : Bool). t || list_any is_line_feed (xs ++ rest)) (All-head (λ b. is_line_feed b ≡ false) x xs clear)
    ∙ list_any-front xs rest (All-tail (λ b. is_line_feed b ≡ false) x xs clear)

twice : (t : Bool) (more : List ℕ) → cond t more [] ≡ cond t (cond t more []) []
twice true more = refl
twice false more = refl

-- the whole lines of a text are those of the rest behind a front without line feeds
whole_lines-front : (a rest : List ℕ) → All (λ b. is_line_feed b ≡ false) a
    → whole_lines (a ++ rest) ≡ cond (list_any is_line_feed rest) (a ++ whole_lines rest) []
whole_lines-front [] [] clear = refl
whole_lines-front [] (b ∷ bs) clear = twice (list_any is_line_feed (b ∷ bs)) (b ∷ whole_lines bs)
whole_lines-front (x ∷ xs) rest clear =
    let more : whole_lines (xs ++ rest) ≡ cond (list_any is_line_feed rest) (xs ++ whole_lines rest) [] =
    whole_lines-front xs rest (All-tail (λ b. is_line_feed b ≡ false) x xs clear) in
    ap (λ (t : Bool). cond t (x ∷ whole_lines (xs ++ rest)) []) (list_any-front (x ∷ xs) rest clear)
    ∙ ap (λ (l : List ℕ). cond (list_any is_line_feed rest) (x ∷ l) []) more
    ∙ onto (list_any is_line_feed rest) (whole_lines rest)
  where
    onto : (t : Bool) (lines : List ℕ) → cond t (x ∷ cond t (xs ++ lines) []) [] ≡ cond t (x ∷ (xs ++ lines)) []
    onto true lines = refl
    onto false lines = refl

-- both texts are too large, or neither is
past-cut : (most : ℕ) (a b rest : List ℕ) → length a + length b ≤ most
    → nat_lt most (length ((a ++ b) ++ rest)) ≡ nat_lt (most - length b) (length (a ++ rest))
past-cut most a b rest within =
    let whole : length ((a ++ b) ++ rest) ≡ length a + length b + length rest = omega (arith, length-append (a ++ b) rest, length-append a b) in
    let cut : length (a ++ rest) ≡ length a + length rest = length-append a rest in
    ⊎_elim
    (λ (past : most < length ((a ++ b) ++ rest)). lt-ltb most (length ((a ++ b) ++ rest)) past
    ∙ sym (lt-ltb (most - length b) (length (a ++ rest)) (omega (arith, past, whole, cut, within))))
    (λ (fits : length ((a ++ b) ++ rest) ≤ most). le-ltb most (length ((a ++ b) ++ rest)) fits
    ∙ sym (le-ltb (most - length b) (length (a ++ rest)) (omega (arith, fits, whole, cut, within))))
    (cases_lt most (length ((a ++ b) ++ rest)))

-- what cannot tell the texts apart whatever follows can't tell apart what counts of them
counted-cut : {Y : Type 0} (g : List ℕ → Y) (a b : List ℕ) (topic : IsTopic (a ++ b)) (front : IsTopic a)
    → ((rest : List ℕ) → g ((a ++ b) ++ rest) ≡ g (a ++ rest))
    → (most : ℕ) (failed : Bool) (rest : List ℕ) → length a + length b ≤ most
    → g (counted_bytes most failed ((a ++ b) ++ rest)) ≡ g (counted_bytes (most - length b) failed (a ++ rest))
unfolding counted_bytes
counted-cut {Y} g a b topic front same most failed rest within =
    let k : ℕ = most - (length a + length b) in
    let limit : most ≡ length (a ++ b) + k = omega (arith, within, length-append a b) in
    let less : most - length b ≡ length a + k = omega (arith, within) in
    let whole : whole_lines (take most ((a ++ b) ++ rest)) ≡ cond (list_any is_line_feed (take k rest)) ((a ++ b) ++ whole_lines (take k rest)) [] =
    ap (λ (n : ℕ). whole_lines (take n ((a ++ b) ++ rest))) limit
    ∙ ap whole_lines (take-append-add (a ++ b) rest k) ∙ whole_lines-front (a ++ b) (take k rest) topic.no_line_feed in
    let cut : whole_lines (take (most - length b) (a ++ rest)) ≡ cond (list_any is_line_feed (take k rest)) (a ++ whole_lines (take k rest)) [] =
    ap (λ (n : ℕ). whole_lines (take n (a ++ rest))) less
    ∙ ap whole_lines (take-append-add a rest k) ∙ whole_lines-front a (take k rest) front.no_line_feed in
    ap (λ (l : List ℕ). g (cond (failed || nat_lt most (length ((a ++ b) ++ rest))) l ((a ++ b) ++ rest))) whole
    ∙ ap (λ (t : Bool). g (cond (failed || t) (cond (list_any is_line_feed (take k rest)) ((a ++ b) ++ whole_lines (take k rest)) []) ((a ++ b) ++ rest)))
    (past-cut most a b rest within)
    ∙ chosen (failed || nat_lt (most - length b) (length (a ++ rest))) (list_any is_line_feed (take k rest)) (whole_lines (take k rest))
    ∙ ap (λ (l : List ℕ). g (cond (failed || nat_lt (most - length b) (length (a ++ rest))) l (a ++ rest))) (sym cut)
  where
    chosen : (t u : Bool) (lines : List ℕ) → g (cond t (cond u ((a ++ b) ++ lines) []) ((a ++ b) ++ rest)) ≡ g (cond t (cond u (a ++ lines) []) (a ++ rest))
    chosen true true lines = same lines
    chosen true false lines = refl
    chosen false u lines = same rest

first_too_long-bare : (size : ℕ) (ms : List Framed) → first_too_long size ms ≡ first_too_long size (map bare ms)
first_too_long-bare size [] = refl
first_too_long-bare size (m ∷ ms) =
    ap (λ (o : Option Trouble). cond (nat_lt size (length m.payload)) (Some (LongPayload m.line (length m.payload))) o) (first_too_long-bare size ms)

module _ (a b : List ℕ) (topic : IsTopic (a ++ b)) (front : IsTopic a) (some : 0 < length a) (most : ℕ) (failed : Bool) (passed : ℕ) (rest : List ℕ)
    (within : length a + length b ≤ most) where
  -- the messages that count
  pub counted_messages-cut : {X : Type 0} (named : ℕ) (h : Framed → X) → Overlooks named h → named ≤ length a
      → map h (messages_after passed (counted_bytes most failed ((a ++ b) ++ rest))) ≡ map h (messages_after passed (counted_bytes (most - length b) failed (a ++ rest)))
  counted_messages-cut named h over long =
      counted-cut (λ (l : List ℕ). map h (messages_after passed l)) a b topic front (messages-cut named h over a b topic front long some passed) most failed
      rest within

  -- the trouble
  pub trouble_after-cut : (size : ℕ)
      → trouble_after size most failed passed ((a ++ b) ++ rest) ≡ trouble_after size (most - length b) failed passed (a ++ rest)
  unfolding trouble_after
  trouble_after-cut size =
      let first : first_too_long size (messages_after passed (counted_bytes most failed ((a ++ b) ++ rest)))
      ≡ first_too_long size (messages_after passed (counted_bytes (most - length b) failed (a ++ rest))) =
      first_too_long-bare size (messages_after passed (counted_bytes most failed ((a ++ b) ++ rest)))
      ∙ ap (first_too_long size) (counted_messages-cut 0 bare (bare-overlooks 0) (omega arith))
      ∙ sym (first_too_long-bare size (messages_after passed (counted_bytes (most - length b) failed (a ++ rest)))) in
      ap (λ (o : Option Trouble). option_or o (cond (nat_lt most (length ((a ++ b) ++ rest))) (Some ManyBytes) None)) first
      ∙ ap (λ (t : Bool). option_or (first_too_long size (messages_after passed (counted_bytes (most - length b) failed (a ++ rest))))
      (cond t (Some ManyBytes) None)) (past-cut most a b rest within)
