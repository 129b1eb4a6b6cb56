-- The trouble of a text, found line by line.
use Rattle.std.proofs.Common.{◌≡◌, ℕ, suc, ◌+◌, ◌-◌, ◌<◌, ◌≤◌, Bool, true, false, cond, Option, Some, None, List, [], ◌∷◌, ◌++◌, length, take, refl, sym, ◌∙◌, ap, subst, ⊎_elim, arith, length-append}
use Rattle.std.specs.Prelude.{nat_lt, if◌then◌else◌, ◌||◌}
use Rattle.std.specs.List.{All, after_first, list_any}
use Rattle.std.specs.Option.{option_or}
use Rattle.std.proofs.Math.Seq.{take-append-add, take-length}
use Rattle.std.proofs.lemmas.List.{get_or-append-add, get_or-take, length-take, take_all}
use Rattle.std.proofs.lemmas.List.Folds.{list_any_at, list_any_none}
use Rattle.std.proofs.lemmas.Bool.{cases_lt, cond-true, cond-false, lt-ltb, le-ltb}
use Rattle.scq_frames.specs.Exports.{HasNoLineFeed, Framed, message_in, messages_after, is_line_feed, LongPayload, ManyBytes, whole_lines}
use Rattle.scq_frames.specs.Exports.{counted_bytes, first_too_long, trouble_after}
use Rattle.scq_topics.specs.Exports.{is_space}
use Rattle.scq_frames.specs.Trouble.{Trouble}
use Rattle.scq_frames.proofs.TextLemmas.{messages_after-line, messages_after-last, messages_after-nil, no_line_feed}

any-line_feed : (line rest : List ℕ) → list_any is_line_feed (line ++ 10 ∷ rest) ≡ true
any-line_feed line rest = list_any_at is_line_feed (line ++ 10 ∷ rest) (length line + 0) 0 (omega (arith, length-append line (10 ∷ rest)))
    (ap is_line_feed (get_or-append-add line (10 ∷ rest) 0 0))

-- a whole line stays whole
whole_lines-line : (line rest : List ℕ) → whole_lines (line ++ 10 ∷ rest) ≡ line ++ 10 ∷ whole_lines rest
whole_lines-line [] rest = refl
whole_lines-line (b ∷ bs) rest =
    cond-true _ _ _ (any-line_feed (b ∷ bs) rest) ∙ ap (λ l. b ∷ l) (whole_lines-line bs rest)

pub all_clear : (bytes : List ℕ) → HasNoLineFeed bytes 0 (length bytes) → All (λ b. is_line_feed b ≡ false) bytes
all_clear bytes clear = subst (All (λ b. is_line_feed b ≡ false)) (take-length bytes) (no_line_feed bytes (length bytes) (omega arith) clear)

-- what has no line feed has no whole line
whole_lines-none : (bytes : List ℕ) → HasNoLineFeed bytes 0 (length bytes) → whole_lines bytes ≡ []
whole_lines-none [] clear = refl
whole_lines-none (b ∷ bs) clear =
    cond-false (list_any is_line_feed (b ∷ bs)) (b ∷ whole_lines bs) [] (list_any_none is_line_feed (b ∷ bs) (all_clear (b ∷ bs) clear))

first_too_long-append : (size : ℕ) (ms ns : List Framed) → first_too_long size (ms ++ ns) ≡ option_or (first_too_long size ms) (first_too_long size ns)
first_too_long-append size [] ns = refl
first_too_long-append size (m ∷ ms) ns =
    elim (nat_lt size (length m.payload)) as (λ t. cond t (Some (LongPayload m.line (length m.payload))) (first_too_long size (ms ++ ns))
    ≡ option_or (cond t (Some (LongPayload m.line (length m.payload))) (first_too_long size ms)) (first_too_long size ns))
    [ true ↦ refl | false ↦ first_too_long-append size ms ns ]

option_or-assoc : {T : Type 0} (a b c : Option T) → option_or (option_or a b) c ≡ option_or a (option_or b c)
option_or-assoc None b c = refl
option_or-assoc (Some x) b c = refl

option_or-none : {T : Type 0} (a : Option T) → option_or a None ≡ a
option_or-none None = refl
option_or-none (Some x) = refl

-- a text is too large by what follows a line within the limit
past-line : (most : ℕ) (line rest : List ℕ) → length line + 1 ≤ most
    → nat_lt most (length (line ++ 10 ∷ rest)) ≡ nat_lt (most - (length line + 1)) (length rest)
past-line most line rest within =
    let total : length (line ++ 10 ∷ rest) ≡ length line + suc (length rest) = length-append line (10 ∷ rest) in
    let k : ℕ = most - (length line + 1) in
    ⊎_elim
    (λ (past : k < length rest). lt-ltb most (length (line ++ 10 ∷ rest)) (omega arith) ∙ sym (lt-ltb k (length rest) past))
    (λ (fits : length rest ≤ k). le-ltb most (length (line ++ 10 ∷ rest)) (omega arith) ∙ sym (le-ltb k (length rest) fits))
    (cases_lt k (length rest))

-- a whole line within the limit counts, and what follows counts by what is left of the limit
pub counted-line : (most : ℕ) (failed : Bool) (line rest : List ℕ) → length line + 1 ≤ most
    → counted_bytes most failed (line ++ 10 ∷ rest) ≡ line ++ 10 ∷ counted_bytes (most - (length line + 1)) failed rest
unfolding counted_bytes
counted-line most failed line rest within =
    let k : ℕ = most - (length line + 1) in
    let text = line ++ 10 ∷ rest in
    let limit : most ≡ length line + suc k = omega arith in
    let whole : whole_lines (take most text) ≡ line ++ 10 ∷ whole_lines (take k rest) =
    ap (λ (m : ℕ). whole_lines (take m text)) limit ∙ ap whole_lines (take-append-add line (10 ∷ rest) (suc k)) ∙ whole_lines-line line (take k rest) in
    ap (λ (t : Bool). cond (failed || t) (whole_lines (take most text)) text) (past-line most line rest within)
    ∙ ap (λ (l : List ℕ). cond (failed || nat_lt k (length rest)) l text) whole
    ∙ chosen (failed || nat_lt k (length rest)) (whole_lines (take k rest))
  where
    chosen : (t : Bool) (short : List ℕ) → cond t (line ++ 10 ∷ short) (line ++ 10 ∷ rest) ≡ line ++ 10 ∷ cond t short rest
    chosen true short = refl
    chosen false short = refl

-- the first line's trouble comes before that of what follows
pub trouble_after-line : (size most : ℕ) (failed : Bool) (passed : ℕ) (line rest : List ℕ) → All (λ b. is_line_feed b ≡ false) line → length line + 1 ≤ most
    → trouble_after size most failed passed (line ++ 10 ∷ rest)
    ≡ option_or (first_too_long size (message_in (passed + 1) line)) (trouble_after size (most - (length line + 1)) failed (passed + 1) rest)
unfolding trouble_after
trouble_after-line size most failed passed line rest clear within =
    let k : ℕ = most - (length line + 1) in
    let text = line ++ 10 ∷ rest in
    let first = first_too_long size (message_in (passed + 1) line) in
    let found : first_too_long size (messages_after passed (counted_bytes most failed text))
    ≡ option_or first (first_too_long size (messages_after (passed + 1) (counted_bytes k failed rest))) =
    ap (λ l. first_too_long size (messages_after passed l)) (counted-line most failed line rest within)
    ∙ ap (first_too_long size) (messages_after-line passed line (counted_bytes k failed rest) clear)
    ∙ first_too_long-append size (message_in (passed + 1) line) (messages_after (passed + 1) (counted_bytes k failed rest)) in
    ap (λ (o : Option Trouble). option_or o (cond (nat_lt most (length text)) (Some ManyBytes) None)) found
    ∙ ap (λ (t : Bool). option_or (option_or first (first_too_long size (messages_after (passed + 1) (counted_bytes k failed rest))))
    (cond t (Some ManyBytes) None)) (past-line most line rest within)
    ∙ option_or-assoc first _ _

-- a payload that is not too long is no trouble
pub first_too_long-fits : (size number : ℕ) (line : List ℕ) → length (after_first is_space line) ≤ size → first_too_long size (message_in number line) ≡ None
first_too_long-fits size number [] fits = refl
first_too_long-fits size number (b ∷ bs) fits = cond-false _ _ _ (le-ltb size (length (after_first is_space (b ∷ bs))) fits)

pub first_too_long-long : (size number : ℕ) (line : List ℕ) → size < length (after_first is_space line)
    → first_too_long size (message_in number line) ≡ Some (LongPayload number (length (after_first is_space line)))
first_too_long-long size number [] long = absurd (omega arith)
first_too_long-long size number (b ∷ bs) long = cond-true _ _ _ (lt-ltb size (length (after_first is_space (b ∷ bs))) long)

-- within the limit, the last line counts where the end was read
pub trouble_after-last : (size most passed : ℕ) (held : List ℕ) → HasNoLineFeed held 0 (length held) → length held ≤ most
    → trouble_after size most false passed held ≡ first_too_long size (message_in (passed + 1) held)
unfolding trouble_after counted_bytes
trouble_after-last size most passed held clear within =
    let fits : nat_lt most (length held) ≡ false = le-ltb most (length held) within in
    ap (λ (t : Bool). option_or (first_too_long size (messages_after passed (cond t (whole_lines (take most held)) held))) (cond t (Some ManyBytes) None)) fits
    ∙ option_or-none _ ∙ ap (first_too_long size) (messages_after-last passed held clear)

-- and it does not count behind a failed read
pub counted-failed : (most : ℕ) (held : List ℕ) → HasNoLineFeed held 0 (length held) → length held ≤ most → counted_bytes most true held ≡ []
unfolding counted_bytes
counted-failed most held clear within = ap whole_lines (take_all most held within) ∙ whole_lines-none held clear

pub trouble_after-failed : (size most passed : ℕ) (held : List ℕ) → HasNoLineFeed held 0 (length held) → length held ≤ most
    → trouble_after size most true passed held ≡ None
unfolding trouble_after
trouble_after-failed size most passed held clear within =
    let fits : nat_lt most (length held) ≡ false = le-ltb most (length held) within in
    ap (λ (l : List ℕ). option_or (first_too_long size (messages_after passed l)) (if nat_lt most (length held) then Some ManyBytes else None))
    (counted-failed most held clear within)
    ∙ ap (λ ms. option_or (first_too_long size ms) (if nat_lt most (length held) then Some ManyBytes else None)) (messages_after-nil passed)
    ∙ ap (λ (t : Bool). cond t (Some ManyBytes) None) fits

-- where no line ends within the limit, and there are more bytes, none counts
pub counted-many : (most : ℕ) (failed : Bool) (text : List ℕ) → HasNoLineFeed text 0 most → most < length text → counted_bytes most failed text ≡ []
unfolding counted_bytes
counted-many most failed text clear past =
    let front : HasNoLineFeed (take most text) 0 (length (take most text)) =
    λ k low high is. clear k low (omega (arith, length-take most text)) (sym (get_or-take most text k 0 (omega (arith, length-take most text))) ∙ is) in
    ap (λ (t : Bool). cond (failed || t) (whole_lines (take most text)) text) (lt-ltb most (length text) past)
    ∙ either failed (whole_lines (take most text)) text ∙ whole_lines-none (take most text) front
  where
    either : (failed : Bool) (a b : List ℕ) → cond (failed || true) a b ≡ a
    either true a b = refl
    either false a b = refl

-- and they are too many
pub trouble_after-many : (size most : ℕ) (failed : Bool) (passed : ℕ) (text : List ℕ) → HasNoLineFeed text 0 most → most < length text
    → trouble_after size most failed passed text ≡ Some ManyBytes
unfolding trouble_after
trouble_after-many size most failed passed text clear past =
    ap (λ (l : List ℕ). option_or (first_too_long size (messages_after passed l)) (cond (nat_lt most (length text)) (Some ManyBytes) None))
    (counted-many most failed text clear past)
    ∙ ap (λ ms. option_or (first_too_long size ms) (cond (nat_lt most (length text)) (Some ManyBytes) None)) (messages_after-nil passed)
    ∙ ap (λ (t : Bool). cond t (Some ManyBytes) None) (lt-ltb most (length text) past)
