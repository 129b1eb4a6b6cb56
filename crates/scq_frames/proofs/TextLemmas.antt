-- The messages of a text, cut from its front.
use Rattle.std.proofs.Common.{◌≡◌, ◌≢◌, ℕ, ◌+◌, ◌<◌, ◌≤◌, false, Some, None, List, [], ◌∷◌, ◌++◌, length, take, drop, get_or, refl, sym, ◌∙◌, ap, subst, arith}
use Rattle.std.specs.Prelude.{slice_range}
use Rattle.std.specs.List.{All, slice_split, before_first, position_or_len}
use Rattle.std.proofs.lemmas.Bool.{false_from_ne_true, eqb-true}
use Rattle.std.proofs.lemmas.List.{append_assoc, take_rest, get_or-take, length-take-le, take-append-drop, drop_more}
use Rattle.std.proofs.lemmas.List.Sums.{position_or_len_is}
use Rattle.std.proofs.lemmas.List.Splits.{slice_split_at, slice_split_none, length-slice_split}
use Rattle.std.proofs.Math.ListN.{drop_of_length-le}
use Rattle.std.proofs.Math.Seq.{take-length}
use Rattle.std.proofs.lemmas.Grind.{get_or_default_zero}
use Rattle.memchr.specs.Find.{IsFirstByte, is_byte}
use Rattle.scq_frames.specs.Exports.{EndsAt, HasNoLineFeed, payload_of, message_in, messages_from, messages_after, lines_of_parts, is_line_feed}
use Rattle.scq_topics.specs.Exports.{is_space}

-- a search for the first space finds where the topic ends
space-some : (line : List ℕ) (n : ℕ) → IsFirstByte (is_byte 32) line (Some n) → position_or_len is_space line ≡ n
space-some line n found =
    position_or_len_is is_space line n 0 (omega (arith, found.0.high)) (λ k low. false_from_ne_true _ (found.0.before k (omega arith) low)) (λ _. found.1)

space-none : (line : List ℕ) → IsFirstByte (is_byte 32) line None → position_or_len is_space line ≡ length line
space-none line none =
    position_or_len_is is_space line (length line) 0 (omega arith) (λ k low. false_from_ne_true _ (none k (omega arith) low)) (λ low. absurd (omega arith))

pub before_first-some : (line : List ℕ) (n : ℕ) → IsFirstByte (is_byte 32) line (Some n) → take n line ≡ before_first is_space line
before_first-some line n found = ap (λ (k : ℕ). take k line) (sym (space-some line n found))

pub payload_of-some : (line : List ℕ) (n : ℕ) → IsFirstByte (is_byte 32) line (Some n) → slice_range line (n + 1) (length line) ≡ payload_of line
payload_of-some line n found = take_rest line (n + 1) ∙ ap (λ (k : ℕ). drop (k + 1) line) (sym (space-some line n found))

-- a line without a space is all topic
pub before_first-none : (line : List ℕ) → IsFirstByte (is_byte 32) line None → line ≡ before_first is_space line
before_first-none line none = sym (take-length line) ∙ ap (λ (k : ℕ). take k line) (sym (space-none line none))

pub payload_of-none : (line : List ℕ) → IsFirstByte (is_byte 32) line None → [] ≡ payload_of line
payload_of-none line none = sym (drop_of_length-le line (omega (arith, space-none line none)))

lines_of_parts-cons : (part : List ℕ) (parts : List (List ℕ)) → length parts ≢ 0 → lines_of_parts (part ∷ parts) ≡ part ∷ lines_of_parts parts
lines_of_parts-cons part [] some = absurd (some refl)
lines_of_parts-cons part (next ∷ more) some = refl

pub no_line_feed : (bytes : List ℕ) (n : ℕ) → n ≤ length bytes → HasNoLineFeed bytes 0 n → All (λ b. is_line_feed b ≡ false) (take n bytes)
no_line_feed bytes n within clear k d low =
    let inside : k < n = omega (arith, length-take-le n bytes within) in
    let reads : get_or (take n bytes) k d ≡ get_or bytes k 0 = get_or-take n bytes k d inside ∙ get_or_default_zero bytes k d (omega arith) in
    false_from_ne_true _ (λ yes. clear k (omega arith) inside (sym reads ∙ eqb-true _ 10 yes))

-- bytes in which a line ends are that line, its line feed and what follows
pub ended_parts : (held more : List ℕ) (len : ℕ) → EndsAt held len → held ++ more ≡ take len held ++ 10 ∷ (drop (len + 1) held ++ more)
ended_parts held more len ends =
    let cut : held ≡ take len held ++ 10 ∷ drop (len + 1) held =
    sym (take-append-drop len held) ∙ ap (λ l. take len held ++ l)
    (drop_more held len 0 ends.within ∙ ap (λ (b : ℕ). b ∷ drop (len + 1) held) ends.line_feed) in
    ap (λ l. l ++ more) cut ∙ append_assoc (take len held) (10 ∷ drop (len + 1) held) more

pub line-clear : (held : List ℕ) (len : ℕ) → EndsAt held len → All (λ b. is_line_feed b ≡ false) (take len held)
line-clear held len ends = no_line_feed held len (omega (arith, ends.within)) ends.before

-- a text whose first line ends has that line's message, and then the messages of what follows
pub messages_after-line : (passed : ℕ) (line rest : List ℕ) → All (λ b. is_line_feed b ≡ false) line
    → messages_after passed (line ++ 10 ∷ rest) ≡ message_in (passed + 1) line ++ messages_after (passed + 1) rest
unfolding messages_after
messages_after-line passed line rest clear =
    ap (messages_from (passed + 1)) (ap lines_of_parts (slice_split_at is_line_feed line 10 rest clear refl)
    ∙ lines_of_parts-cons line (slice_split is_line_feed rest) (λ none. absurd (omega (arith, length-slice_split is_line_feed rest))))

pub messages_after-ended : (passed : ℕ) (held more : List ℕ) (len : ℕ) → EndsAt held len
    → messages_after passed (held ++ more) ≡ message_in (passed + 1) (take len held) ++ messages_after (passed + 1) (drop (len + 1) held ++ more)
messages_after-ended passed held more len ends =
    ap (messages_after passed) (ended_parts held more len ends)
    ∙ messages_after-line passed (take len held) (drop (len + 1) held ++ more) (line-clear held len ends)

-- a text without a line feed is one line, where it has bytes
pub messages_after-last : (passed : ℕ) (held : List ℕ) → HasNoLineFeed held 0 (length held) → messages_after passed held ≡ message_in (passed + 1) held
unfolding messages_after
messages_after-last passed [] clear = refl
messages_after-last passed (b ∷ bs) clear =
    let held = b ∷ bs in
    let parts : slice_split is_line_feed held ≡ held ∷ [] =
    slice_split_none is_line_feed held (λ k d low. subst (λ l. is_line_feed (get_or l k d) ≡ false) (take-length held)
    (no_line_feed held (length held) (omega arith) clear k d (subst (λ l. k < length l) (sym (take-length held)) low))) in
    ap (λ ps. messages_from (passed + 1) (lines_of_parts ps)) parts

pub messages_after-nil : (passed : ℕ) → messages_after passed [] ≡ []
unfolding messages_after
messages_after-nil passed = refl
