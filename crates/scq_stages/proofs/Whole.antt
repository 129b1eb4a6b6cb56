-- A message that fits is one part.
use Rattle.std.proofs.Common.{◌≡◌, ◌∙◌, ap, arith, ◌<◌, ◌≤◌, ℕ, ◌*◌, List, length, take, drop, ⊎_elim}
use Rattle.std.specs.Int.{div_ceil}
use Rattle.std.proofs.lemmas.Bool.{cases_lt}
use Rattle.std.proofs.lemmas.Grind.{div_ceil_times}
use Rattle.std.proofs.lemmas.List.{take_all}
use Rattle.std.proofs.Math.Nat.{mul-le-mul_right}
use Rattle.scq_frames.specs.declared.message.Message.{Message}
use Rattle.scq_frames.specs.Exports.{parts_of, part_of}
use Rattle.scq_stages.specs.Exports.{whole_of}

pub one-part : (size : ℕ) (payload : List ℕ) → 0 < size → length payload ≤ size → parts_of size payload ≡ 1
one-part size payload some fits =
    let count : ℕ = div_ceil (length payload) size in
    let bounds = div_ceil_times (length payload) size some in
    ⊎_elim
    (λ (h : 1 < count).
    let up : 2 * size ≤ count * size = mul-le-mul_right size (omega (arith, h)) in
    absurd (omega (arith, up, fits, bounds.1)))
    (λ (h : count ≤ 1). omega (arith, h)) (cases_lt 1 count)

pub whole-part : (size : ℕ) (m : Message) → 0 < size → length m.payload ≤ size → part_of size m 1 ≡ whole_of m
whole-part size m some fits =
    let none : 0 * size ≡ 0 = omega arith in
    let all : drop (0 * size) m.payload ≡ m.payload = ap (λ n. drop n m.payload) none in
    ap (λ l. record { file = m.file; line = m.line; topic = m.topic; part = 1; parts = parts_of size m.payload; payload = take size l }) all
    ∙ ap (λ n. record { file = m.file; line = m.line; topic = m.topic; part = 1; parts = n; payload = take size m.payload }) (one-part size m.payload some fits)
    ∙ ap (λ l. record { file = m.file; line = m.line; topic = m.topic; part = 1; parts = 1; payload = l }) (take_all size m.payload fits)
