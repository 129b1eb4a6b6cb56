-- Parts one behind the other are read back as they were written, whatever bound their count has.
use Rattle.std.proofs.Common.{◌≡◌, ◌⊎◌, inl, inr, ◌↔◌, IsTrue, Bool, true, false, ◌^◌, ◌*◌, ℕ, zero, suc, ◌+◌, ◌-◌, ◌<◌, ◌≤◌, Some, None, List, [], ◌∷◌, ◌++◌, length, take, drop, refl, sym, ◌∙◌, ap, subst, ⊎_elim, arith, length-append, length-drop}
use Rattle.std.specs.Prelude.{nat_lt, nat_eq, min, MatchOption, option_and_then, Option, ◌||◌, replicate}
use Rattle.std.specs.List.{All, AllByRecursion}
use Rattle.std.specs.Option.{option_map_or}
use Rattle.std.proofs.lemmas.Bool.{ltb-false, cases_lt, eqb-true, eq-eqb}
use Rattle.std.proofs.lemmas.Grind.{flat_map-append}
use Rattle.std.proofs.lemmas.List.{take_at, drop_at, take_all, take-append-drop, append_assoc, append-nil, length-take, length-take-le, length-replicate}
use Rattle.std.proofs.lemmas.List.Elements.{All-append, All-cons, All-nil, recursion_from_All}
use Rattle.std.proofs.lemmas.Option.{option_and_then_some}
use Rattle.byteorder.specs.Endian.{big_bytes, big_number}
use Rattle.scq_frames.specs.declared.message.Message.{Message}
use Rattle.scq_frames.specs.declared.encoded.View.{View}
use Rattle.scq_frames.specs.Exports.{Part, IsNumbered, parts_of as the_parts_of, part_of, message_bytes, IsEncodable, number_at, part_at}
use Rattle.scq_frames.specs.Exports.{part_of_view, batch_bytes, bytes_behind, parts_within, parts_at, AreParts}
use Rattle.scq_frames.proofs.EncodedLemmas.{chosen, passed, number_at-again, part_at-again}

-- a number that was read took four bytes
number_at-takes : (bytes : List ℕ) (found : ℕ × List ℕ) → number_at bytes ≡ Some found → length bytes ≡ 4 + length found.1
unfolding number_at
number_at-takes bytes found e =
    let parts = chosen (nat_lt (length bytes) 4) (big_number 4 bytes, drop 4 bytes) found e in
    let enough : 4 ≤ length bytes = ltb-false (length bytes) 4 parts.0 in
    subst (λ (f : ℕ × List ℕ). length bytes ≡ 4 + length f.1) parts.1 (omega (arith, enough, length-drop 4 bytes))

-- a part that was read stands within the bytes
pub part_at-room : (bytes : List ℕ) (p : Part) → part_at bytes ≡ Some p → 24 + length p.payload ≤ length bytes
unfolding part_at
part_at-room bytes p e =
    option_and_then_some _ (number_at bytes) p e (λ file file-is e1.
    option_and_then_some _ (number_at file.1) p e1 (λ line line-is e2.
    option_and_then_some _ (number_at line.1) p e2 (λ topic topic-is e3.
    option_and_then_some _ (number_at topic.1) p e3 (λ len len-is e4.
    option_and_then_some _ (number_at len.1) p e4 (λ part part-is e5.
    option_and_then_some _ (number_at part.1) p e5 (λ parts parts-is e6.
    let one = number_at-takes bytes file file-is in
    let two = number_at-takes file.1 line line-is in
    let three = number_at-takes line.1 topic topic-is in
    let four = number_at-takes topic.1 len len-is in
    let five = number_at-takes len.1 part part-is in
    let six = number_at-takes part.1 parts parts-is in
    let tested = passed (nat_lt part.0 1 || nat_lt parts.0 part.0) _ p e6 in
    let read : Part =
    record { file = file.0; line = line.0; topic = topic.0; part = part.0; parts = parts.0; payload = take len.0 parts.1 } in
    let found = chosen (nat_lt (length parts.1) len.0) read p tested.1 in
    let enough : len.0 ≤ length parts.1 = ltb-false (length parts.1) len.0 found.0 in
    let count : length (take len.0 parts.1) ≡ len.0 = length-take-le len.0 parts.1 enough in
    subst (λ (q : Part). 24 + length q.payload ≤ length bytes) found.1 (omega (arith, one, two, three, four, five, six, enough, count))))))))

none_or : (o : Option Part) → ((p : Part) → o ≡ Some p → ⊥) → o ≡ None
none_or None never = refl
none_or (Some p) never = absurd (never p refl)

some_or : (o : Option Part) → (o ≡ None) ⊎ ((p : Part) × (o ≡ Some p))
some_or None = inl refl
some_or (Some p) = inr (p, refl)

-- so few bytes are no part's
pub part_at-short : (bytes : List ℕ) → length bytes < 24 → part_at bytes ≡ None
part_at-short bytes few = none_or (part_at bytes) (λ p e. absurd (omega (arith, few, part_at-room bytes p e)))

pub part_at-nil : part_at [] ≡ None
part_at-nil = part_at-short [] (omega arith)

-- and neither are 24 zeros: the part's number would be 0
pub part_at-zeros : (rest : List ℕ) → part_at (replicate 24 0 ++ rest) ≡ None
unfolding part_at
part_at-zeros rest =
    let zeros : List ℕ = big_bytes 4 0 in
    ap (option_and_then _) (number_at-again 0 (zeros ++ zeros ++ zeros ++ zeros ++ zeros ++ rest) (omega arith))
    ∙ ap (option_and_then _) (number_at-again 0 (zeros ++ zeros ++ zeros ++ zeros ++ rest) (omega arith))
    ∙ ap (option_and_then _) (number_at-again 0 (zeros ++ zeros ++ zeros ++ rest) (omega arith))
    ∙ ap (option_and_then _) (number_at-again 0 (zeros ++ zeros ++ rest) (omega arith))
    ∙ ap (option_and_then _) (number_at-again 0 (zeros ++ rest) (omega arith))
    ∙ ap (option_and_then _) (number_at-again 0 rest (omega arith))

within-none : (n : ℕ) (bytes : List ℕ) → part_at bytes ≡ None → parts_within n bytes ≡ []
unfolding parts_within
within-none zero bytes e = refl
within-none (suc n) bytes e = ap (λ (o : Option Part). option_map_or (λ p. p ∷ parts_within n (bytes_behind p bytes)) o []) e

within-some : (n : ℕ) (bytes : List ℕ) (p : Part) → part_at bytes ≡ Some p → parts_within (suc n) bytes ≡ p ∷ parts_within n (bytes_behind p bytes)
unfolding parts_within
within-some n bytes p e = ap (λ (o : Option Part). option_map_or (λ p. p ∷ parts_within n (bytes_behind p bytes)) o []) e

pub in-none : {A : Type 0} (o : Option A) (P : Type 0) (Q : A → Type 0) → o ≡ None → P → MatchOption o P Q
in-none {A = A} o P Q e p = subst (λ (r : Option A). MatchOption r P Q) (sym e) p

-- with as many as there are bytes, or more, all parts are found
within-enough : (n m : ℕ) (bytes : List ℕ) → length bytes ≤ n → length bytes ≤ m → parts_within n bytes ≡ parts_within m bytes
within-enough zero m bytes low high =
    let none = part_at-short bytes (omega (arith, low)) in
    within-none zero bytes none ∙ sym (within-none m bytes none)
within-enough (suc n) zero bytes low high =
    let none = part_at-short bytes (omega (arith, high)) in
    within-none (suc n) bytes none ∙ sym (within-none zero bytes none)
within-enough (suc n) (suc m) bytes low high =
    ⊎_elim
    (λ (none : part_at bytes ≡ None). within-none (suc n) bytes none ∙ sym (within-none (suc m) bytes none))
    (λ (some : (p : Part) × (part_at bytes ≡ Some p)).
    let p = some.0 in
    let room = part_at-room bytes p some.1 in
    let less = length-drop (24 + length p.payload) bytes in
    within-some n bytes p some.1
    ∙ ap (λ (l : List Part). p ∷ l) (within-enough n m (bytes_behind p bytes) (omega (arith, low, room, less)) (omega (arith, high, room, less)))
    ∙ sym (within-some m bytes p some.1))
    (some_or (part_at bytes))

-- where no part's bytes come first there are no parts
pub parts-at-none : (bytes : List ℕ) → part_at bytes ≡ None → parts_at bytes ≡ []
unfolding parts_at
parts-at-none bytes none = within-none (length bytes) bytes none

-- where a part's do, it is the first of them, and those behind it follow
pub parts-at-some : (bytes : List ℕ) (p : Part) → part_at bytes ≡ Some p → parts_at bytes ≡ p ∷ parts_at (bytes_behind p bytes)
unfolding parts_at
parts-at-some bytes p some =
    let less = length-drop (24 + length p.payload) bytes in
    within-enough (length bytes) (suc (length bytes)) bytes (omega arith) (omega arith)
    ∙ within-some (length bytes) bytes p some
    ∙ ap (λ (l : List Part). p ∷ l) (within-enough (length bytes) (length (bytes_behind p bytes)) (bytes_behind p bytes) (omega (arith, less)) (omega arith))

pub length-message_bytes : (p : Part) → length (message_bytes p) ≡ 24 + length p.payload
unfolding message_bytes
length-message_bytes p =
    let front : List ℕ =
    big_bytes 4 p.file ++ big_bytes 4 p.line ++ big_bytes 4 p.topic ++ big_bytes 4 (length p.payload) ++ big_bytes 4 p.part ++ big_bytes 4 p.parts in
    length-append front p.payload

-- a part's bytes in front of others
pub parts-in-front : (p : Part) (rest : List ℕ) → IsEncodable p → parts_at (message_bytes p ++ rest) ≡ p ∷ parts_at rest
parts-in-front p rest fits =
    parts-at-some (message_bytes p ++ rest) p (part_at-again p rest fits)
    ∙ ap (λ (l : List ℕ). p ∷ parts_at l) (drop_at (message_bytes p) rest (24 + length p.payload) (length-message_bytes p))

by_recursion : (ps : List Part) (rest : List ℕ) → AllByRecursion IsEncodable ps → part_at rest ≡ None → parts_at (batch_bytes ps ++ rest) ≡ ps
by_recursion [] rest fits none = parts-at-none rest none
by_recursion (p ∷ ps) rest fits none =
    ap parts_at (append_assoc (message_bytes p) (batch_bytes ps) rest)
    ∙ parts-in-front p (batch_bytes ps ++ rest) fits.0
    ∙ ap (λ (l : List Part). p ∷ l) (by_recursion ps rest fits.1 none)

-- what is read is what was written, where no part begins behind it
pub parts-of-batch : (ps : List Part) (rest : List ℕ) → All IsEncodable ps → part_at rest ≡ None → parts_at (batch_bytes ps ++ rest) ≡ ps
parts-of-batch ps rest fits none = by_recursion ps rest (recursion_from_All IsEncodable ps fits) none

-- the same with nothing behind it
pub parts-of-all : (ps : List Part) → All IsEncodable ps → parts_at (batch_bytes ps) ≡ ps
parts-of-all ps fits = ap parts_at (sym (append-nil (batch_bytes ps))) ∙ parts-of-batch ps [] fits part_at-nil

-- a part's bytes and an end mark
pub parts-of-one : (p : Part) (rest : List ℕ) → IsEncodable p → part_at rest ≡ None → parts_at (message_bytes p ++ rest) ≡ p ∷ []
parts-of-one p rest fits none = parts-in-front p rest fits ∙ ap (λ (l : List Part). p ∷ l) (parts-at-none rest none)

-- the bytes of such parts are theirs
pub are-parts : (file : ℕ) (ps : List Part) → All IsEncodable ps → All (λ p. p.file ≡ file) ps → AreParts file (batch_bytes ps)
are-parts file ps fits alike =
    let same : ps ≡ parts_at (batch_bytes ps) = sym (parts-of-all ps fits) in
    record {
      whole = ap batch_bytes same;
      encodable = subst (λ (l : List Part). All IsEncodable l) same fits;
      alike = subst (λ (l : List Part). All (λ p. p.file ≡ file) l) same alike;
    }

-- no bytes are those of no parts
pub none-in : (bytes : List ℕ) → bytes ≡ [] → parts_at bytes ≡ []
none-in bytes e = ap parts_at e ∙ parts-at-none [] part_at-nil

pub are-none : (file : ℕ) (bytes : List ℕ) → bytes ≡ [] → AreParts file bytes
are-none file bytes e = subst (λ (l : List ℕ). AreParts file l) (sym e) (are-parts file [] (All-nil IsEncodable) (All-nil (λ (q : Part). q.file ≡ file)))

bytes-of-none : (file : ℕ) (bytes : List ℕ) → AreParts file bytes → parts_at bytes ≡ [] → bytes ≡ []
bytes-of-none file bytes its e = its.whole ∙ ap batch_bytes e

-- a part that is added behind others
all-fit : (file : ℕ) (bytes : List ℕ) (p : Part) → AreParts file bytes → IsEncodable p → All IsEncodable (parts_at bytes ++ p ∷ [])
all-fit file bytes p its fits = All-append IsEncodable (parts_at bytes) (p ∷ []) its.encodable (All-cons IsEncodable p [] fits (All-nil IsEncodable))

text-more : (file : ℕ) (bytes : List ℕ) (p : Part) → AreParts file bytes → bytes ++ message_bytes p ≡ batch_bytes (parts_at bytes ++ p ∷ [])
text-more file bytes p its =
    ap (λ (l : List ℕ). l ++ message_bytes p) its.whole
    ∙ ap (λ (l : List ℕ). batch_bytes (parts_at bytes) ++ l) (sym (append-nil (message_bytes p)))
    ∙ sym (flat_map-append message_bytes (parts_at bytes) (p ∷ []))

pub parts-more : (file : ℕ) (bytes : List ℕ) (p : Part) → AreParts file bytes → IsEncodable p → parts_at (bytes ++ message_bytes p) ≡ parts_at bytes ++ p ∷ []
parts-more file bytes p its fits = ap parts_at (text-more file bytes p its) ∙ parts-of-all (parts_at bytes ++ p ∷ []) (all-fit file bytes p its fits)

pub are-more : (old file : ℕ) (bytes : List ℕ) (p : Part) → AreParts old bytes → IsEncodable p → All (λ q. q.file ≡ file) (parts_at bytes) → p.file ≡ file
    → AreParts file (bytes ++ message_bytes p)
are-more old file bytes p its fits alike is =
    let Of : Part → Type 0 = λ (q : Part). q.file ≡ file in
    let each : All Of (parts_at bytes ++ p ∷ []) = All-append Of (parts_at bytes) (p ∷ []) alike (All-cons Of p [] is (All-nil Of)) in
    subst (λ (l : List ℕ). AreParts file l) (sym (text-more old bytes p its)) (are-parts file (parts_at bytes ++ p ∷ []) (all-fit old bytes p its fits) each)

no-length : (bytes : List ℕ) → length bytes ≡ 0 → bytes ≡ []
no-length bytes e = sym (take_all 0 bytes (omega (arith, e)))

-- whether there are bytes tells whether there are parts
pub is-none : (file n : ℕ) (bytes : List ℕ) (b : Bool) → AreParts file bytes → b ≡ nat_eq n 0 → n ≡ length bytes → IsTrue b ↔ (parts_at bytes ≡ [])
is-none file n bytes b its test count =
    (λ t. none-in bytes (no-length bytes (sym count ∙ eqb-true n 0 (sym test ∙ t))), λ e. test ∙ eq-eqb n 0 (count ∙ ap length (bytes-of-none file bytes its e)))

-- parts of one file are all of it, and no parts are of any
pub of-any : (own file n : ℕ) (bytes : List ℕ) (b : Bool) → AreParts own bytes → IsTrue b → b ≡ nat_eq n 0 → n ≡ length bytes
    → IsTrue b ↔ All (λ p. p.file ≡ file) (parts_at bytes)
of-any own file n bytes b its set test count =
    let none : parts_at bytes ≡ [] = (is-none own n bytes b its test count).0 set in
    let each : All (λ (p : Part). p.file ≡ file) (parts_at bytes) = subst (λ (l : List Part). All (λ (p : Part). p.file ≡ file) l) (sym none) (All-nil (λ (p : Part). p.file ≡ file)) in
    (λ _. each, λ _. set)

one-file : (own file : ℕ) (ps : List Part) → (ps ≡ [] → ⊥) → AllByRecursion (λ (p : Part). p.file ≡ own) ps → AllByRecursion (λ (p : Part). p.file ≡ file) ps
    → own ≡ file
one-file own file [] some a b = absurd (some refl)
one-file own file (p ∷ ps) some a b = sym a.0 ∙ b.0

differ : false ≡ true → ⊥
differ e = cc

pub of-one : (own file n : ℕ) (bytes : List ℕ) (b : Bool) → AreParts own bytes → b ≡ false → b ≡ nat_eq n 0 → n ≡ length bytes
    → IsTrue (nat_eq own file) ↔ All (λ p. p.file ≡ file) (parts_at bytes)
of-one own file n bytes b its unset test count =
    let Own : Part → Type 0 = λ (p : Part). p.file ≡ own in
    let Of : Part → Type 0 = λ (p : Part). p.file ≡ file in (
      λ t. subst (λ (f : ℕ). All (λ (p : Part). p.file ≡ f) (parts_at bytes)) (eqb-true own file t) its.alike,
      λ all. eq-eqb own file (one-file own file (parts_at bytes) (λ e. differ (sym unset ∙ (is-none own n bytes b its test count).1 e))
          (recursion_from_All Own (parts_at bytes) its.alike) (recursion_from_All Of (parts_at bytes) all)),
    )

-- the numbers of a part of a message fit
pub encodable-view : (size : ℕ) (m : Message) (part : ℕ) (v : View) → part_of_view v ≡ part_of size m part
    → v.file < 2 ^ 32 → v.line < 2 ^ 32 → v.topic < 2 ^ 32 → v.parts < 2 ^ 32 → length m.payload < 2 ^ 32 → IsNumbered part (the_parts_of size m.payload)
    → IsEncodable (part_of_view v)
encodable-view size m part v same file line topic parts short numbered =
    let start : ℕ = (part - 1) * size in
    let few : length (part_of size m part).payload < 2 ^ 32 = omega (arith, short, length-take size (drop start m.payload), length-drop start m.payload) in
    record {
      file = file;
      line = line;
      topic = topic;
      payload = subst (λ (p : Part). length p.payload < 2 ^ 32) (sym same) few;
      parts = parts;
      numbered = subst (λ (p : Part). IsNumbered p.part p.parts) (sym same) numbered;
    }

-- zeros up to the end, or 24 of them, end the parts
pub zeros-end : (old new : List ℕ) (at n : ℕ) → at ≤ length old → n ≡ min 24 (length old - at) → new ≡ take at old ++ replicate n 0 ++ drop (at + n) old
    → part_at (drop at new) ≡ None
zeros-end old new at n within count e =
    let front : length (take at old) ≡ at = length-take-le at old within in
    let behind : drop at new ≡ replicate n 0 ++ drop (at + n) old =
    ap (drop at) (e ∙ append_assoc (take at old) (replicate n 0) (drop (at + n) old)) ∙ drop_at (take at old) (replicate n 0 ++ drop (at + n) old) at front in
    let long : length (drop at new) ≡ n + (length old - (at + n)) =
    ap length behind ∙ length-append (replicate n 0) (drop (at + n) old)
    ∙ ap (λ (k : ℕ). k + length (drop (at + n) old)) (length-replicate n 0) ∙ ap (λ (k : ℕ). n + k) (length-drop (at + n) old) in
    ⊎_elim
    (λ (h : length old - at < 24). part_at-short (drop at new) (omega (arith, h, long, count, within)))
    (λ (h : 24 ≤ length old - at).
    let all : n ≡ 24 = omega (arith, h, count) in
    ap part_at (behind ∙ ap (λ (k : ℕ). replicate k 0 ++ drop (at + k) old) all) ∙ part_at-zeros (drop (at + 24) old))
    (cases_lt (length old - at) 24)

-- bytes that were written, and what was written behind them
pub ended : (front rest now new : List ℕ) (at : ℕ) → now ≡ front ++ rest → at ≡ length front → take at new ≡ take at now → new ≡ front ++ drop at new
ended front rest now new at is count before =
    sym (take-append-drop at new) ∙ ap (λ (l : List ℕ). l ++ drop at new) (before ∙ ap (take at) is ∙ take_at front rest at (sym count))

-- a part's six numbers and its payload, added one behind the other
pub part-pushed : (old room one two head : List ℕ) (p : Part) → room ≡ old → head ≡ take 24 (message_bytes p) ++ [] → one ≡ room ++ head → two ≡ one ++ p.payload
    → two ≡ old ++ message_bytes p
unfolding message_bytes
part-pushed old room one two head p same is first second =
    let front : List ℕ =
    big_bytes 4 p.file ++ big_bytes 4 p.line ++ big_bytes 4 p.topic ++ big_bytes 4 (length p.payload) ++ big_bytes 4 p.part ++ big_bytes 4 p.parts in
    let numbers : head ≡ front = is in
    second ∙ ap (λ (l : List ℕ). l ++ p.payload) (first ∙ ap (λ (l : List ℕ). l ++ head) same ∙ ap (λ (l : List ℕ). old ++ l) numbers) ∙ append_assoc old front p.payload
