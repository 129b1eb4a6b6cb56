-- A part's bytes are read back as the part, and what is read has those bytes.
use Rattle.std.proofs.Common.{◌≡◌, ◌^◌, ℕ, ◌+◌, ◌<◌, ◌≤◌, Bool, true, false, cond, Some, None, List, ◌++◌, length, take, drop, get_or, refl, sym, ◌∙◌, ap, subst, ⊎_elim, arith, length-append}
use Rattle.std.specs.Prelude.{nat_lt, option_and_then, Option, ◌||◌}
use Rattle.std.specs.Int.{w32, from_be_bytes}
use Rattle.std.proofs.lemmas.Bool.{cond-false, le-ltb, ltb-false, or_from, or_parts, cases_lt}
use Rattle.std.proofs.lemmas.List.{take-append-drop, take_at, drop_at, drop-drop, get_or-take, get_or-drop, get_or_past, length-take-le}
use Rattle.std.proofs.lemmas.Nat.{be_bytes_4}
use Rattle.std.proofs.lemmas.Option.{option_and_then_some}
use Rattle.byteorder.specs.Endian.{big_bytes, big_number}
use Rattle.byteorder.specs.Numbers.{big_number-reads_back}
use Rattle.scq_frames.specs.Exports.{Part, IsNumbered, message_bytes, IsEncodable, BeginsWith, number_at, part_at}

-- each element is a byte
abbrev pub AreBytes : List ℕ → Type 0
AreBytes bytes = (i : ℕ) → get_or bytes i 0 < 256

pub number_at-again : (n : ℕ) (rest : List ℕ) → n < 2 ^ 32 → number_at (big_bytes 4 n ++ rest) ≡ Some (n, rest)
unfolding number_at
number_at-again n rest fits =
    cond-false _ None (Some (big_number 4 (big_bytes 4 n ++ rest), drop 4 (big_bytes 4 n ++ rest))) (le-ltb (length (big_bytes 4 n ++ rest)) 4 (omega arith))
    ∙ ap (λ (k : ℕ). Some (k, rest)) (big_number-reads_back 4 n rest fits)

pub chosen : {A : Type 0} (b : Bool) (x y : A) → cond b None (Some x) ≡ Some y → (b ≡ false) × (x ≡ y)
chosen true x y e = cc
chosen false x y e = (refl, cc)

-- a number that was read stands in the first four bytes
number_at-found : (bytes : List ℕ) (found : ℕ × List ℕ) → AreBytes bytes → number_at bytes ≡ Some found
    → (bytes ≡ big_bytes 4 found.0 ++ found.1) × AreBytes found.1
unfolding number_at
number_at-found bytes found small e =
    let parts = chosen (nat_lt (length bytes) 4) (big_number 4 bytes, drop 4 bytes) found e in
    let enough : 4 ≤ length bytes = ltb-false (length bytes) 4 parts.0 in
    let four : length (take 4 bytes) ≡ 4 = length-take-le 4 bytes enough in
    let at0 : get_or (take 4 bytes) 0 0 ≡ get_or bytes 0 0 = get_or-take 4 bytes 0 0 (omega arith) in
    let at1 : get_or (take 4 bytes) 1 0 ≡ get_or bytes 1 0 = get_or-take 4 bytes 1 0 (omega arith) in
    let at2 : get_or (take 4 bytes) 2 0 ≡ get_or bytes 2 0 = get_or-take 4 bytes 2 0 (omega arith) in
    let at3 : get_or (take 4 bytes) 3 0 ≡ get_or bytes 3 0 = get_or-take 4 bytes 3 0 (omega arith) in
    let few : AreBytes (take 4 bytes) = λ i.
    ⊎_elim (λ (h : i < 4). subst (λ (b : ℕ). b < 256) (sym (get_or-take 4 bytes i 0 h)) (small i))
    (λ (h : 4 ≤ i). subst (λ (b : ℕ). b < 256) (sym (get_or_past (take 4 bytes) i 0 (omega arith))) (omega arith)) (cases_lt i 4) in
    let read : big_number 4 bytes ≡ from_be_bytes w32 (take 4 bytes) = omega arith in
    let front : big_bytes 4 (big_number 4 bytes) ≡ take 4 bytes = be_bytes_4 (take 4 bytes) (big_number 4 bytes) four few read in
    let whole : bytes ≡ big_bytes 4 (big_number 4 bytes) ++ drop 4 bytes =
    sym (take-append-drop 4 bytes) ∙ ap (λ (l : List ℕ). l ++ drop 4 bytes) (sym front) in
    let behind : AreBytes (drop 4 bytes) = λ i. subst (λ (b : ℕ). b < 256) (sym (get_or-drop 4 bytes i 0)) (small (4 + i)) in
    subst (λ (f : ℕ × List ℕ). (bytes ≡ big_bytes 4 f.0 ++ f.1) × AreBytes f.1) parts.1 (whole, behind)

-- the same where a further choice follows
pub passed : {A : Type 0} (b : Bool) (o : Option A) (y : A) → cond b None o ≡ Some y → (b ≡ false) × (o ≡ Some y)
passed true o y e = cc
passed false o y e = (refl, e)

numbered_by : (part parts : ℕ) → (nat_lt part 1 || nat_lt parts part) ≡ false → IsNumbered part parts
numbered_by part parts e =
    let tests = or_parts (nat_lt part 1) (nat_lt parts part) e in
    record { first = ltb-false part 1 tests.0; last = ltb-false parts part tests.1 }

by_numbered : (part parts : ℕ) → IsNumbered part parts → (nat_lt part 1 || nat_lt parts part) ≡ false
by_numbered part parts its = or_from (nat_lt part 1) (nat_lt parts part) (le-ltb part 1 its.first) (le-ltb parts part its.last)

-- what is read has the part's bytes
pub part_at-found : (bytes : List ℕ) (p : Part) → AreBytes bytes → part_at bytes ≡ Some p → BeginsWith bytes p × IsNumbered p.part p.parts
unfolding part_at message_bytes
part_at-found bytes p small e =
    option_and_then_some _ (number_at bytes) p e (λ file file-is e1.
    option_and_then_some _ (number_at file.1) p e1 (λ line line-is e2.
    option_and_then_some _ (number_at line.1) p e2 (λ topic topic-is e3.
    option_and_then_some _ (number_at topic.1) p e3 (λ len len-is e4.
    option_and_then_some _ (number_at len.1) p e4 (λ part part-is e5.
    option_and_then_some _ (number_at part.1) p e5 (λ parts parts-is e6.
    let one = number_at-found bytes file small file-is in
    let two = number_at-found file.1 line one.1 line-is in
    let three = number_at-found line.1 topic two.1 topic-is in
    let four = number_at-found topic.1 len three.1 len-is in
    let five = number_at-found len.1 part four.1 part-is in
    let six = number_at-found part.1 parts five.1 parts-is in
    let tested = passed (nat_lt part.0 1 || nat_lt parts.0 part.0) _ p e6 in
    let numbered : IsNumbered part.0 parts.0 = numbered_by part.0 parts.0 tested.0 in
    let read : Part =
    record { file = file.0; line = line.0; topic = topic.0; part = part.0; parts = parts.0; payload = take len.0 parts.1 } in
    let found = chosen (nat_lt (length parts.1) len.0) read p tested.1 in
    let count : length (take len.0 parts.1) ≡ len.0 = length-take-le len.0 parts.1 (ltb-false (length parts.1) len.0 found.0) in
    let rest : List ℕ = drop len.0 parts.1 in
    let text : part.1 ≡ big_bytes 4 parts.0 ++ (take len.0 parts.1 ++ rest) =
    six.0 ∙ ap (λ (l : List ℕ). big_bytes 4 parts.0 ++ l) (sym (take-append-drop len.0 parts.1)) in
    let sized : topic.1 ≡ big_bytes 4 (length (take len.0 parts.1)) ++ len.1 =
    four.0 ∙ ap (λ (n : ℕ). big_bytes 4 n ++ len.1) (sym count) in
    let whole : bytes ≡ message_bytes read ++ rest =
    one.0 ∙ ap (λ (l : List ℕ). big_bytes 4 file.0 ++ l)
    (two.0 ∙ ap (λ (l : List ℕ). big_bytes 4 line.0 ++ l)
    (three.0 ∙ ap (λ (l : List ℕ). big_bytes 4 topic.0 ++ l)
    (sized ∙ ap (λ (l : List ℕ). big_bytes 4 (length (take len.0 parts.1)) ++ l)
    (five.0 ∙ ap (λ (l : List ℕ). big_bytes 4 part.0 ++ l) text)))) in
    subst (λ (q : Part). BeginsWith bytes q × IsNumbered q.part q.parts) found.1 ((rest, whole), numbered)))))))

-- a part's bytes are read as the part, whatever follows them
pub part_at-again : (p : Part) (rest : List ℕ) → IsEncodable p → part_at (message_bytes p ++ rest) ≡ Some p
unfolding part_at message_bytes
part_at-again p rest fits =
    let after_parts : List ℕ = p.payload ++ rest in
    let after_part : List ℕ = big_bytes 4 p.parts ++ after_parts in
    let after_len : List ℕ = big_bytes 4 p.part ++ after_part in
    let after_topic : List ℕ = big_bytes 4 (length p.payload) ++ after_len in
    let after_line : List ℕ = big_bytes 4 p.topic ++ after_topic in
    let after_file : List ℕ = big_bytes 4 p.line ++ after_line in
    let low : p.part < 2 ^ 32 = omega (arith, fits.numbered.last, fits.parts) in
    let read : Part =
    record { file = p.file; line = p.line; topic = p.topic; part = p.part; parts = p.parts; payload = take (length p.payload) after_parts } in
    ap (option_and_then _) (number_at-again p.file after_file fits.file)
    ∙ ap (option_and_then _) (number_at-again p.line after_line fits.line)
    ∙ ap (option_and_then _) (number_at-again p.topic after_topic fits.topic)
    ∙ ap (option_and_then _) (number_at-again (length p.payload) after_len fits.payload)
    ∙ ap (option_and_then _) (number_at-again p.part after_part low)
    ∙ ap (option_and_then _) (number_at-again p.parts after_parts fits.parts)
    ∙ cond-false (nat_lt p.part 1 || nat_lt p.parts p.part) None (cond (nat_lt (length after_parts) (length p.payload)) None (Some read))
    (by_numbered p.part p.parts fits.numbered)
    ∙ cond-false (nat_lt (length after_parts) (length p.payload)) None (Some read)
    (le-ltb (length after_parts) (length p.payload) (omega (arith, length-append p.payload rest)))
    ∙ ap (λ (l : List ℕ). Some (record { file = p.file; line = p.line; topic = p.topic; part = p.part; parts = p.parts; payload = l }))
    (take_at p.payload rest (length p.payload) refl)

-- bytes that were written behind others
pub written : (front old now new bytes : List ℕ) (at n : ℕ) → now ≡ front ++ drop at old → length front ≡ at → n ≡ length bytes
    → new ≡ take at now ++ bytes ++ drop (at + n) now → new ≡ (front ++ bytes) ++ drop (at + n) old
written front old now new bytes at n before count size e =
    let low : take at now ≡ front = ap (take at) before ∙ take_at front (drop at old) at count in
    let high : drop (at + n) now ≡ drop (at + n) old =
    ap (drop (at + n)) before ∙ sym (drop-drop n at (front ++ drop at old)) ∙ ap (drop n) (drop_at front (drop at old) at count) ∙ drop-drop n at old in
    e ∙ ap (λ (l : List ℕ). l ++ bytes ++ drop (at + n) now) low ∙ ap (λ (l : List ℕ). front ++ bytes ++ l) high

-- the bytes of a part stand behind its six numbers
pub begins-room : (bytes : List ℕ) (p : Part) → BeginsWith bytes p
    → (24 + length p.payload ≤ length bytes) × (take (length p.payload) (drop 24 bytes) ≡ p.payload)
unfolding message_bytes
begins-room bytes p begins =
    let front : List ℕ =
    big_bytes 4 p.file ++ big_bytes 4 p.line ++ big_bytes 4 p.topic ++ big_bytes 4 (length p.payload) ++ big_bytes 4 p.part ++ big_bytes 4 p.parts in
    let whole : bytes ≡ front ++ (p.payload ++ begins.0) = begins.1 in
    let behind : drop 24 bytes ≡ p.payload ++ begins.0 = ap (drop 24) whole ∙ drop_at front (p.payload ++ begins.0) 24 refl in
    let all : length bytes ≡ 24 + (length p.payload + length begins.0) =
    ap length whole ∙ length-append front (p.payload ++ begins.0) ∙ ap (λ n. 24 + n) (length-append p.payload begins.0) in (
      omega (arith, all),
      ap (take (length p.payload)) behind ∙ take_at p.payload begins.0 (length p.payload) refl,
    )
