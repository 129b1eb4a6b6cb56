-- The bytes of a position, written from the last to the first.
use Rattle.std.proofs.Common.{◌≡◌, ◌∙◌, ap, arith, ℕ, ◌+◌, ◌-◌, ◌<◌, ◌≤◌, ◌^◌, List, ◌∷◌, length, drop, set}
use Rattle.std.specs.Prelude.{decimal}
use Rattle.std.proofs.lemmas.Fmt.{length-decimal-le}
use Rattle.std.proofs.lemmas.List.{drop-set}

-- a colon was put before some bytes
pub colon : (bytes : List ℕ) (at : ℕ) → 0 < at → at ≤ length bytes → drop (at - 1) (set bytes (at - 1) 58) ≡ 58 ∷ drop at bytes
colon bytes at some within =
    let next : at - 1 + 1 ≡ at = omega (arith, some) in
    drop-set bytes (at - 1) 58 (omega (arith, some, within)) ∙ ap (λ n. 58 ∷ drop n bytes) next

-- a number of 32 bits has at most ten digits
pub short : (n : ℕ) → n < 2 ^ 32 → length (decimal n) ≤ 10
short n small = length-decimal-le 10 n (omega arith) (omega (arith, small)) (omega (arith, small))
