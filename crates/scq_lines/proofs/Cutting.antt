-- Bytes cut at the first that is this one, as a search finds it.
use Rattle.std.proofs.Common.{◌≡◌, ℕ, ◌+◌, ◌<◌, ◌≤◌, false, ◌==◌, Some, None, List, [], ◌∷◌, ◌++◌, length, take, drop, get_or, refl, sym, ◌∙◌, ap, append_assoc, arith}
use Rattle.std.specs.Prelude.{slice_range}
use Rattle.std.specs.List.{All, onto_first}
use Rattle.std.proofs.lemmas.Bool.{false_from_ne_true, eqb-true}
use Rattle.std.proofs.lemmas.List.{take_rest, get_or-take, length-take-le, take-append-drop, drop_more}
use Rattle.std.proofs.lemmas.List.Elements.{All-head, All-tail}
use Rattle.std.proofs.lemmas.List.Splits.{slice_split_at, slice_split_none}
use Rattle.std.proofs.lemmas.Grind.{get_or_default_zero}
use Rattle.memchr.specs.Find.{IsFirstByte, is_byte}
use Rattle.scq_lines.specs.Exports.{lines_of, fields_of, fields_after, ends_field}

-- none of the bytes is this one
abbrev IsOther : ℕ → ℕ → Type 0
IsOther c b = (b == c) ≡ false

abbrev HasNo : ℕ → List ℕ → Type 0
HasNo c bytes = All (IsOther c) bytes

-- what stands before the first has none
none_before : (c : ℕ) (bytes : List ℕ) (n : ℕ) → IsFirstByte (is_byte c) bytes (Some n) → HasNo c (take n bytes)
none_before c bytes n found k d low =
    let inside : k < n = omega (arith, length-take-le n bytes (omega (arith, found.0.high))) in
    let reads : get_or (take n bytes) k d ≡ get_or bytes k 0 = get_or-take n bytes k d inside ∙ get_or_default_zero bytes k d (omega (arith, found.0.high)) in
    rw reads (false_from_ne_true _ (found.0.before k (omega arith) inside))

none_at_all : (c : ℕ) (bytes : List ℕ) → IsFirstByte (is_byte c) bytes None → HasNo c bytes
none_at_all c bytes none k d low = rw (get_or_default_zero bytes k d low) (false_from_ne_true _ (none k (omega arith) low))

-- the bytes are those before the first, it, and those after it
cut_at : (c : ℕ) (bytes : List ℕ) (n : ℕ) → IsFirstByte (is_byte c) bytes (Some n) → bytes ≡ take n bytes ++ c ∷ drop (n + 1) bytes
cut_at c bytes n found =
    sym (take-append-drop n bytes)
    ∙ ap (λ l. take n bytes ++ l) (drop_more bytes n 0 found.0.high ∙ ap (λ (b : ℕ). b ∷ drop (n + 1) bytes) (eqb-true _ c found.1))

-- a line that ends, and those of what follows
lines_of-ended : (line rest : List ℕ) → HasNo 10 line → lines_of (line ++ 10 ∷ rest) ≡ line ∷ lines_of rest
lines_of-ended [] rest clear = refl
lines_of-ended (b ∷ bs) rest clear = rw (All-head (IsOther 10) b bs clear, lines_of-ended bs rest (All-tail (IsOther 10) b bs clear)) refl

-- a last line that doesn't end
lines_of-last : (b : ℕ) (bs : List ℕ) → HasNo 10 (b ∷ bs) → lines_of (b ∷ bs) ≡ (b ∷ bs) ∷ []
lines_of-last b [] clear = rw (All-head (IsOther 10) b [] clear) refl
lines_of-last b (d ∷ bs) clear = rw (All-head (IsOther 10) b (d ∷ bs) clear, lines_of-last d bs (All-tail (IsOther 10) b (d ∷ bs) clear)) refl

pub lines_of-some : (text : List ℕ) (n : ℕ) → IsFirstByte (is_byte 10) text (Some n)
    → lines_of text ≡ take n text ∷ lines_of (slice_range text (n + 1) (length text))
lines_of-some text n found =
    ap lines_of (cut_at 10 text n found) ∙ lines_of-ended (take n text) (drop (n + 1) text) (none_before 10 text n found)
    ∙ ap (λ rest. take n text ∷ lines_of rest) (sym (take_rest text (n + 1)))

pub lines_of-none : (text : List ℕ) → 0 < length text → IsFirstByte (is_byte 10) text None → lines_of text ≡ text ∷ []
lines_of-none [] some none = absurd (omega arith)
lines_of-none (b ∷ bs) some none = lines_of-last b bs (none_at_all 10 (b ∷ bs) none)

-- the same where more bytes follow
pub lines_of-some-more : (text more : List ℕ) (n : ℕ) → IsFirstByte (is_byte 10) text (Some n)
    → lines_of (text ++ more) ≡ take n text ∷ lines_of (slice_range text (n + 1) (length text) ++ more)
lines_of-some-more text more n found =
    ap (λ t. lines_of (t ++ more)) (cut_at 10 text n found) ∙ ap lines_of (append_assoc (take n text) (10 ∷ drop (n + 1) text) more)
    ∙ lines_of-ended (take n text) (drop (n + 1) text ++ more) (none_before 10 text n found)
    ∙ ap (λ rest. take n text ∷ lines_of (rest ++ more)) (sym (take_rest text (n + 1)))

-- the first line of a text that begins with these bytes, none of which ends it, has them all
pub record BeginsLine (text more : List ℕ) : Type 0 where
  pub line : List ℕ
  pub lines : List (List ℕ)
  pub cut : lines_of (text ++ more) ≡ line ∷ lines
  pub has : length text ≤ length line

pub record Onto (b : ℕ) (lines : List (List ℕ)) (n : ℕ) : Type 0 where
  pub line : List ℕ
  pub rest : List (List ℕ)
  pub cut : onto_first b lines ≡ line ∷ rest
  pub has : n + 1 ≤ length line

onto : (b : ℕ) (lines : List (List ℕ)) (line : List ℕ) (rest : List (List ℕ)) (n : ℕ) → lines ≡ line ∷ rest → n ≤ length line → Onto b lines n
onto b lines line rest n cut has = record { line = b ∷ line; rest = rest; cut = ap (onto_first b) cut; has = omega arith }

onto_any : (b : ℕ) (lines : List (List ℕ)) → Onto b lines 0
onto_any b [] = record { line = b ∷ []; rest = []; cut = refl; has = omega arith }
onto_any b (line ∷ rest) = record { line = b ∷ line; rest = rest; cut = refl; has = omega arith }

begins : (b : ℕ) (bs more : List ℕ) → HasNo 10 (b ∷ bs) → BeginsLine (b ∷ bs) more
begins b [] more clear =
    let o = onto_any b (lines_of more) in
    record { line = o.line; lines = o.rest; cut = rw (All-head (IsOther 10) b [] clear) o.cut; has = o.has }
begins b (d ∷ bs) more clear =
    let inner = begins d bs more (All-tail (IsOther 10) b (d ∷ bs) clear) in
    let o = onto b (lines_of ((d ∷ bs) ++ more)) inner.line inner.lines (length (d ∷ bs)) inner.cut inner.has in
    record { line = o.line; lines = o.rest; cut = rw (All-head (IsOther 10) b (d ∷ bs) clear) o.cut; has = (let h = o.has in omega arith) }

pub lines_of-none-more : (text more : List ℕ) → 0 < length text → IsFirstByte (is_byte 10) text None → BeginsLine text more
lines_of-none-more [] more some none = absurd (omega arith)
lines_of-none-more (b ∷ bs) more some none = begins b bs more (none_at_all 10 (b ∷ bs) none)

-- the first field and what follows it
fields_cut : (line : List ℕ) (n : ℕ) → IsFirstByte (is_byte 32) line (Some n) → fields_of line ≡ take n line ∷ fields_of (drop (n + 1) line)
fields_cut line n found =
    ap fields_of (cut_at 32 line n found) ∙ slice_split_at ends_field (take n line) 32 (drop (n + 1) line) (none_before 32 line n found) refl

pub fields_after-some : (line : List ℕ) (n : ℕ) → IsFirstByte (is_byte 32) line (Some n)
    → fields_after line ≡ fields_of (slice_range line (n + 1) (length line))
fields_after-some line n found = ap (drop 1) (fields_cut line n found) ∙ ap fields_of (sym (take_rest line (n + 1)))

pub fields_after-none : (line : List ℕ) → IsFirstByte (is_byte 32) line None → fields_after line ≡ []
fields_after-none line none = ap (drop 1) (slice_split_none ends_field line (none_at_all 32 line none))

-- what follows the first field begins with the space that ends it
pub fields_of-some : (line : List ℕ) (n : ℕ) → IsFirstByte (is_byte 32) line (Some n)
    → fields_of line ≡ take n line ∷ fields_after (slice_range line n (length line))
fields_of-some line n found =
    fields_cut line n found
    ∙ ap (λ rest. take n line ∷ rest)
    (sym (ap fields_after (take_rest line n ∙ drop_more line n 0 found.0.high ∙ ap (λ (b : ℕ). b ∷ drop (n + 1) line) (eqb-true _ 32 found.1))))

pub fields_of-none : (line : List ℕ) → IsFirstByte (is_byte 32) line None → fields_of line ≡ line ∷ fields_after []
fields_of-none line none = slice_split_none ends_field line (none_at_all 32 line none)
