-- The parts of a payload.
use Rattle.std.proofs.Common.{◌≡◌, ◌<◌, ◌≤◌, ℕ, ◌+◌, ◌*◌, List, length, ⊎_elim, arith}
use Rattle.std.specs.Prelude.{max}
use Rattle.std.specs.Int.{div_ceil}
use Rattle.std.proofs.Math.Nat.{add-mul, mul-le-mul_right}
use Rattle.std.proofs.lemmas.Bool.{cases_lt}
use Rattle.std.proofs.lemmas.Nat.{mul-le}
use Rattle.std.proofs.lemmas.Grind.{div_ceil_times}
use Rattle.scq_frames.specs.Exports.{parts_of}

-- a payload has no more parts than bytes, but for an empty one
pub few-parts : (size : ℕ) (payload : List ℕ) → 0 < size → parts_of size payload ≤ max 1 (length payload)
few-parts size payload some =
    let len = length payload in
    let count : ℕ = div_ceil len size in
    let bounds = div_ceil_times len size some in
    ⊎_elim
    (λ (h : len < count).
    let up : (len + 1) * size ≤ count * size = mul-le-mul_right size (omega (arith, h)) in
    let split : (len + 1) * size ≡ len * size + 1 * size = add-mul len 1 size in
    let least : len * 1 ≤ len * size = mul-le len 1 len size (omega arith) (omega (arith, some)) in
    absurd (omega (arith, up, split, least, bounds.1)))
    (λ (h : count ≤ len). omega (arith, h)) (cases_lt len count)
