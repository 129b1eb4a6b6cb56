use Rattle.std.proofs.Common.{◌≡◌, ◌∙◌, ap, arith, ◌+◌, ◌*◌, ◌%◌, ◌^◌, ◌≤◌, ℕ}
use Rattle.std.proofs.lemmas.Nat.{mul-le, pow_pos}
use Rattle.std.proofs.Math.Nat.{mod-eq_of_lt}
use Rattle.std.proofs.Math.Pow.{pow_mono}
use Rattle.scq_word.specs.Exports.{most_run_order}
use Rattle.scq_passes.proofs.making.make_frames.Goals as goal

-- the number of buffers, as it is computed in 32 bits
exact : (order : ℕ) → order ≤ most_run_order → 1 * 2 ^ order % 4294967296 ≡ 2 ^ order
exact order few =
    let low : 2 ^ order ≤ 2 ^ most_run_order = pow_mono few in
    let one : 1 * 2 ^ order ≡ 2 ^ order = omega arith in
    ap (λ n. n % 4294967296) one ∙ mod-eq_of_lt (omega (arith, low))

pub carve-requires : goal.carve-requires
carve-requires c =
    let order = c.args.setup.order in
    let size = c.args.size in
    let few : 2 ^ order ≤ 2 ^ most_run_order = pow_mono c.requires.order in
    let small : size + 24 ≤ 65560 = omega (arith, c.requires.fits) in
    let all : 2 ^ order * (size + 24) ≤ 2 ^ most_run_order * 65560 = mul-le (2 ^ order) (size + 24) (2 ^ most_run_order) 65560 few small in
    rw (exact order c.requires.order) (pow_pos order, omega arith, omega (arith, all))
