-- What is read is what was written: a number, and an answer behind another.
use Rattle.std.proofs.Common.{◌≡◌, ◌^◌, ℕ, ◌+◌, ◌-◌, ◌*◌, ◌/◌, ◌%◌, ◌<◌, ◌≤◌, Bool, true, false, cond, Option, Some, None, List, [], ◌∷◌, ◌++◌, length, drop, refl, ◌∙◌, ap, ⊎_elim, arith, length-append}
use Rattle.std.specs.Prelude.{nat_lt, ◌==◌, option_and_then}
use Rattle.std.proofs.Math.Nat.{add-mod-mod, add-mod_right, mod-eq_of_lt, mod-lt, mul-add-div, mul-add-mod_self_left}
use Rattle.std.proofs.lemmas.Bool.{and_parts, cond-true, cases_lt, eqb-true, le-ltb, lt-ltb}
use Rattle.std.proofs.lemmas.List.{append_assoc, drop_at, take_at}
use Rattle.byteorder.specs.Endian.{big_bytes, big_number}
use Rattle.byteorder.specs.Numbers.{big_number-reads_back}
use Rattle.scq_collect.specs.Exports.{PartAnswer, IsCodable, answer_bytes, body_bytes, body_from, is_alone, number_bytes, number_from, part_numbers}
use Rattle.scq_collect.specs.Exports.{parts_from, place_from, short_from, step, stepped, topic_code, width}

-- a number's bytes, by how large it is
pub in_one : (n : ℕ) → n < 253 → number_bytes n ≡ n ∷ []
unfolding number_bytes
in_one n small = rw (lt-ltb n 253 small) refl

pub in_three : (n : ℕ) → 253 ≤ n → n < 2 ^ 16 → number_bytes n ≡ 253 ∷ big_bytes 2 n
unfolding number_bytes
in_three n large small = rw (le-ltb n 253 large, lt-ltb n (2 ^ 16) small) refl

pub in_five : (n : ℕ) → 2 ^ 16 ≤ n → n < 2 ^ 32 → number_bytes n ≡ 254 ∷ big_bytes 4 n
unfolding number_bytes
in_five n large small = rw (le-ltb n 253 (omega arith), le-ltb n (2 ^ 16) large, lt-ltb n (2 ^ 32) small) refl

pub in_nine : (n : ℕ) → 2 ^ 32 ≤ n → number_bytes n ≡ 255 ∷ big_bytes 8 n
unfolding number_bytes
in_nine n large = rw (le-ltb n 253 (omega arith), le-ltb n (2 ^ 16) (omega arith), le-ltb n (2 ^ 32) large) refl

small-again : (n : ℕ) (rest : List ℕ) → n < 253 → number_from (n ∷ rest) ≡ Some (n, rest)
unfolding number_from
small-again n rest small = rw (lt-ltb n 253 small) refl

-- a number behind its mark is read back
marked-again : (first k n : ℕ) (rest : List ℕ) → 253 ≤ first → width first ≡ k → length (big_bytes k n) ≡ k → n < 256 ^ k
    → number_from (first ∷ (big_bytes k n ++ rest)) ≡ Some (n, rest)
unfolding number_from
marked-again first k n rest high wide long fits =
    let there : k ≤ length (big_bytes k n ++ rest) = omega (arith, length-append (big_bytes k n) rest, long) in
    let read : big_number k (big_bytes k n ++ rest) ≡ n = big_number-reads_back k n rest fits in
    let behind : drop k (big_bytes k n ++ rest) ≡ rest = drop_at (big_bytes k n) rest k long in
    rw (le-ltb first 253 high, wide, le-ltb (length (big_bytes k n ++ rest)) k there, read, behind) refl

pub number-again : (n : ℕ) (rest : List ℕ) → n < 2 ^ 64 → number_from (number_bytes n ++ rest) ≡ Some (n, rest)
number-again n rest fits =
    ⊎_elim (λ (a : n < 253). ap (λ (l : List ℕ). number_from (l ++ rest)) (in_one n a) ∙ small-again n rest a)
    (λ (a : 253 ≤ n). ⊎_elim
    (λ (b : n < 2 ^ 16). ap (λ (l : List ℕ). number_from (l ++ rest)) (in_three n a b) ∙ marked-again 253 2 n rest (omega arith) refl refl b)
    (λ (b : 2 ^ 16 ≤ n). ⊎_elim
    (λ (c : n < 2 ^ 32). ap (λ (l : List ℕ). number_from (l ++ rest)) (in_five n b c) ∙ marked-again 254 4 n rest (omega arith) refl refl c)
    (λ (c : 2 ^ 32 ≤ n). ap (λ (l : List ℕ). number_from (l ++ rest)) (in_nine n c) ∙ marked-again 255 8 n rest (omega arith) refl refl fits)
    (cases_lt n (2 ^ 32))) (cases_lt n (2 ^ 16))) (cases_lt n 253)

short-again : (n : ℕ) (rest : List ℕ) → n < 2 ^ 32 → short_from (number_bytes n ++ rest) ≡ Some (n, rest)
unfolding short_from
short-again n rest fits =
    ap (option_and_then _) (number-again n rest (omega arith)) ∙ cond-true (nat_lt n (2 ^ 32)) (Some (n, rest)) None (lt-ltb n (2 ^ 32) fits)

half : (b : Bool) (t : ℕ) → (2 * t + (cond b 0 1)) / 2 ≡ t
half true t = mul-add-div (omega arith) t 0 ∙ omega arith
half false t = mul-add-div (omega arith) t 1 ∙ omega arith

code-half : (a : PartAnswer) → topic_code a / 2 ≡ a.topic
code-half a = half (is_alone a) a.topic

code-fits-by : (b : Bool) (t : ℕ) → t < 2 ^ 32 → 2 * t + (cond b 0 1) < 2 ^ 64
code-fits-by true t fits = omega arith
code-fits-by false t fits = omega arith

code-fits : (a : PartAnswer) → a.topic < 2 ^ 32 → topic_code a < 2 ^ 64
code-fits a fits = code-fits-by (is_alone a) a.topic fits

parts-again-by : (b : Bool) (a : PartAnswer) (rest : List ℕ) → is_alone a ≡ b → IsCodable a
    → parts_from (2 * a.topic + (cond b 0 1)) (cond b [] (number_bytes a.part ++ number_bytes a.parts) ++ rest) ≡ Some ((a.part, a.parts), rest)
unfolding parts_from
parts-again-by true a rest e fits =
    let tests = and_parts (a.part == 1) (a.parts == 1) e in
    let even : (((2 * a.topic + 0) % 2) == 0) ≡ true = ap (λ (m : ℕ). m == 0) (mul-add-mod_self_left 2 a.topic 0) in
    rw (even, eqb-true a.part 1 tests.0, eqb-true a.parts 1 tests.1) refl
parts-again-by false a rest e fits =
    let odd : (((2 * a.topic + 1) % 2) == 0) ≡ false = ap (λ (m : ℕ). m == 0) (mul-add-mod_self_left 2 a.topic 1) in
    rw (odd, append_assoc (number_bytes a.part) (number_bytes a.parts) rest) (
    ap (option_and_then _) (short-again a.part (number_bytes a.parts ++ rest) fits.part)
    ∙ ap (option_and_then _) (short-again a.parts rest fits.parts))

parts-again : (a : PartAnswer) (rest : List ℕ) → IsCodable a → parts_from (topic_code a) (part_numbers a ++ rest) ≡ Some ((a.part, a.parts), rest)
parts-again a rest fits = parts-again-by (is_alone a) a rest refl fits

-- a step leads back to where it was taken to
step-again : (from to : ℕ) → from < 2 ^ 32 → to < 2 ^ 32 → stepped from (step from to) ≡ to
step-again from to low fits =
    let across : from + (to + (2 ^ 32 - from)) ≡ to + 2 ^ 32 = omega arith in
    add-mod-mod from (to + (2 ^ 32 - from)) (2 ^ 32) ∙ ap (λ (n : ℕ). n % 2 ^ 32) across ∙ add-mod_right to (2 ^ 32) ∙ mod-eq_of_lt fits

-- the same answer, field by field
abbrev answer_with : PartAnswer → ℕ → ℕ → ℕ → List ℕ → PartAnswer
answer_with a file line topic text = record { file = file; line = line; topic = topic; part = a.part; parts = a.parts; bytes = a.bytes; text = text }

same-answer : (a : PartAnswer) (rest : List ℕ) (file line topic : ℕ) (text behind : List ℕ) → file ≡ a.file → line ≡ a.line → topic ≡ a.topic
    → text ≡ a.text → behind ≡ rest → ◌≡◌ {A = Option (PartAnswer × List ℕ)} (Some (answer_with a file line topic text, behind)) (Some (a, rest))
same-answer a rest file line topic text behind e1 e2 e3 e4 e5 = rw (e1, e2, e3, e4, e5) refl

-- where a step led
same-place : (a : PartAnswer) (rest : List ℕ) (file line : ℕ) → file ≡ a.file → line ≡ a.line
    → ◌≡◌ {A = Option ((ℕ × ℕ) × List ℕ)} (Some ((file, line), rest)) (Some ((a.file, a.line), rest))
same-place a rest file line e1 e2 = rw (e1, e2) refl

pub place-again : (before : ℕ × ℕ) (a : PartAnswer) (rest : List ℕ) → before.0 < 2 ^ 32 → before.1 < 2 ^ 32 → IsCodable a
    → place_from before (answer_bytes before a ++ rest) ≡ Some ((a.file, a.line), body_bytes a ++ rest)
unfolding place_from answer_bytes
place-again before a rest low1 low2 fits =
    let s1 : ℕ = step before.0 a.file in
    let s2 : ℕ = step before.1 a.line in
    let n1 : List ℕ = number_bytes s1 in
    let n2 : List ℕ = number_bytes s2 in
    let r2 : List ℕ = body_bytes a ++ rest in
    let r1 : List ℕ = n2 ++ r2 in
    let spread : (n1 ++ n2 ++ body_bytes a) ++ rest ≡ n1 ++ r1 = append_assoc (n1 ++ n2) (body_bytes a) rest ∙ append_assoc n1 n2 r2 in
    rw spread (
    ap (option_and_then _) (short-again s1 r1 (mod-lt (a.file + (2 ^ 32 - before.0)) (omega arith)))
    ∙ ap (option_and_then _) (short-again s2 r2 (mod-lt (a.line + (2 ^ 32 - before.1)) (omega arith)))
    ∙ same-place a r2 _ _ (step-again before.0 a.file low1 fits.file) (step-again before.1 a.line low2 fits.line))

pub body-again : (a : PartAnswer) (rest : List ℕ) → IsCodable a → body_from (a.file, a.line) (body_bytes a ++ rest) ≡ Some (a, rest)
unfolding body_from body_bytes
body-again a rest fits =
    let n3 : List ℕ = number_bytes (topic_code a) in
    let n4 : List ℕ = part_numbers a in
    let n5 : List ℕ = number_bytes a.bytes in
    let n6 : List ℕ = number_bytes (length a.text) in
    let r6 : List ℕ = a.text ++ rest in
    let r5 : List ℕ = n6 ++ r6 in
    let r4 : List ℕ = n5 ++ r5 in
    let r3 : List ℕ = n4 ++ r4 in
    let spread : (n3 ++ n4 ++ n5 ++ n6 ++ a.text) ++ rest ≡ n3 ++ r3 =
    append_assoc (n3 ++ n4 ++ n5 ++ n6) a.text rest ∙ append_assoc (n3 ++ n4 ++ n5) n6 r6
    ∙ append_assoc (n3 ++ n4) n5 r5 ∙ append_assoc n3 n4 r4 in
    let short : nat_lt (topic_code a / 2) (2 ^ 32) ≡ true = ap (λ (t : ℕ). nat_lt t (2 ^ 32)) (code-half a) ∙ lt-ltb a.topic (2 ^ 32) fits.topic in
    let long : nat_lt (length r6) (length a.text) ≡ false = le-ltb (length r6) (length a.text) (omega (arith, length-append a.text rest)) in
    rw spread (
    ap (option_and_then _) (number-again (topic_code a) r3 (code-fits a fits.topic))
    ∙ ap (option_and_then _) (parts-again a r4 fits)
    ∙ ap (option_and_then _) (number-again a.bytes r5 fits.bytes)
    ∙ ap (option_and_then _) (number-again (length a.text) r6 fits.text)
    ∙ rw (short, long) (same-answer a rest _ _ _ _ _ refl refl (code-half a)
    (take_at a.text rest (length a.text) refl) (drop_at a.text rest (length a.text) refl)))

-- an answer's bytes are those of its place, and the rest behind them
pub in-two : (front n3 n4 n5 n6 text : List ℕ) → front ++ n3 ++ n4 ++ n5 ++ n6 ++ text ≡ front ++ (n3 ++ n4 ++ n5 ++ n6 ++ text)
in-two front n3 n4 n5 n6 text =
    ap (λ (l : List ℕ). l ++ text) (
    ap (λ (l : List ℕ). l ++ n6) (ap (λ (l : List ℕ). l ++ n5) (append_assoc front n3 n4) ∙ append_assoc front (n3 ++ n4) n5)
    ∙ append_assoc front (n3 ++ n4 ++ n5) n6)
    ∙ append_assoc front (n3 ++ n4 ++ n5 ++ n6) text

-- bytes that were pushed behind others
pub pushed : (items front more now new : List ℕ) → now ≡ items ++ front → new ≡ now ++ more → new ≡ items ++ (front ++ more)
pushed items front more now new before e = e ∙ ap (λ (l : List ℕ). l ++ more) before ∙ append_assoc items front more
