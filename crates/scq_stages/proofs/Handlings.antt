-- What a stage leaves of a part's bytes, written over them.
use Rattle.std.proofs.Common.{◌≡◌, ◌∙◌, refl, sym, ap, subst, arith, ℕ, ◌+◌, ◌≤◌, Option, Some, None, List, ◌++◌, length, take, drop, length-drop, true}
use Rattle.std.specs.Prelude.{IfSome, IsSomeAnd}
use Rattle.std.proofs.lemmas.List.{take_at, drop_at, length-map, length-take-le}
use Rattle.byteorder.specs.Endian.{big_bytes}
use Rattle.scq_frames.specs.Exports.{Part, BeginsWith, message_bytes}
use Rattle.scq_frames.proofs.EncodedLemmas.{begins-room}
use Rattle.scq_stages.specs.Exports.{redacted, redacted_byte, after_stage}
use Rattle.scq_stages.specs.declared.handling.Rest.{Rest}

-- the six numbers of a part
abbrev front : Part → ℕ → List ℕ
front p len = big_bytes 4 p.file ++ big_bytes 4 p.line ++ big_bytes 4 p.topic ++ big_bytes 4 len ++ big_bytes 4 p.part ++ big_bytes 4 p.parts

numbers-first : (old : List ℕ) (p : Part) → BeginsWith old p → take 24 old ≡ front p (length p.payload)
unfolding message_bytes
numbers-first old p begins =
    let whole : old ≡ front p (length p.payload) ++ (p.payload ++ begins.0) = begins.1 in
    ap (take 24) whole ∙ take_at (front p (length p.payload)) (p.payload ++ begins.0) 24 refl

begins-so : (p : Part) (rest : List ℕ) → front p (length p.payload) ++ (p.payload ++ rest) ≡ message_bytes p ++ rest
unfolding message_bytes
begins-so p rest = refl

-- where a stage keeps the length, the part that it leaves comes first
written-over : (stage : List ℕ → List ℕ) (old ys rest : List ℕ) (p : Part) → BeginsWith old p → length (stage p.payload) ≡ length p.payload
    → ys ≡ stage p.payload → BeginsWith (take 24 old ++ (ys ++ rest)) (after_stage stage p)
written-over stage old ys rest p begins same is =
    let numbers : take 24 old ≡ front p (length (stage p.payload)) = numbers-first old p begins ∙ ap (front p) (sym same) in (
      rest,
      ap (λ (l : List ℕ). l ++ (ys ++ rest)) numbers ∙ ap (λ (l : List ℕ). front p (length (stage p.payload)) ++ (l ++ rest)) is
          ∙ begins-so (after_stage stage p) rest,
    )

-- so redacting does
pub redacted-over : (old new : List ℕ) (q : Part) (o : Option Part) → BeginsWith old q → Some q ≡ o
    → new ≡ take 24 old ++ (redacted (take (length q.payload) (drop 24 old)) ++ drop (length q.payload) (drop 24 old))
    → IfSome o (λ p. (true ≡ true) × BeginsWith new (after_stage redacted p))
redacted-over old new q None begins same is = absurd (cc)
redacted-over old new q (Some p) begins same is =
    let one : q ≡ p = cc in
    let P : Part → Type 0 = λ p. BeginsWith new (after_stage redacted p) in
    let Q : List ℕ → Type 0 = λ l. BeginsWith l (after_stage redacted q) in
    let ys : List ℕ = redacted (take (length q.payload) (drop 24 old)) in (
      refl,
      subst P one (subst Q (sym is) (written-over redacted old ys (drop (length q.payload) (drop 24 old)) q begins
          (length-map q.payload redacted_byte) (ap redacted (begins-room old q begins).1))),
    )

-- what a stage leaves comes first behind the numbers
pub left-over : (stage : List ℕ → List ℕ) (old new : List ℕ) (q : Part) (o : Option Part) (rest : Rest) → BeginsWith old q → Some q ≡ o → rest.file ≡ q.file → rest.line ≡ q.line
    → 24 + rest.len ≤ length new → take rest.len (drop 24 new) ≡ stage (take (length q.payload) (drop 24 old))
    → IfSome o (λ p. IsSomeAnd (Some rest) (λ rest. (rest.file ≡ p.file) × (rest.line ≡ p.line) × (24 + rest.len ≤ length new)
    × (take rest.len (drop 24 new) ≡ stage p.payload)))
left-over stage old new q None rest begins same file line within left = absurd (cc)
left-over stage old new q (Some p) rest begins same file line within left =
    let one : q ≡ p = cc in
    let P : Part → Type 0 = λ p. (rest.file ≡ p.file) × (rest.line ≡ p.line) × (24 + rest.len ≤ length new) × (take rest.len (drop 24 new) ≡ stage p.payload) in
    subst P one (file, line, within, left ∙ ap stage (begins-room old q begins).1)

-- bytes of a part that were redacted stand where they stood
pub redacted-there : (old mid : List ℕ) (len : ℕ) → 24 + len ≤ length old → mid ≡ take 24 old ++ (redacted (take len (drop 24 old)) ++ drop len (drop 24 old))
    → take len (drop 24 mid) ≡ redacted (take len (drop 24 old))
redacted-there old mid len room is =
    let xs : List ℕ = take len (drop 24 old) in
    let rest : List ℕ = drop len (drop 24 old) in
    let numbers : length (take 24 old) ≡ 24 = length-take-le 24 old (omega (arith, room)) in
    let long : length (redacted xs) ≡ len =
    length-map xs redacted_byte ∙ length-take-le len (drop 24 old) (omega (arith, room, length-drop 24 old)) in
    ap (λ (l : List ℕ). take len (drop 24 l)) is ∙ ap (take len) (drop_at (take 24 old) (redacted xs ++ rest) 24 numbers)
    ∙ take_at (redacted xs) rest len long
