-- What the begun puts take is small, as the reset value is.
use Rattle.std.proofs.Common.{◌≤◌, ◌+◌, ◌*◌, ◌^◌, arith, pow_mono}
use Rattle.std.proofs.lemmas.Nat.{mul-le}
use Rattle.scq_word.specs.Exports.{n_of, most_order}
use Rattle.scq_word.proofs.BoundLemmas.{reset_small}
use Rattle.scq_word.proofs.bounds.limit_for.Goals as goal
use Rattle.scq_word.proofs.bounds.limit_for.Goals.{After-from-2}

product : (c : After-from-2) → (c.from.result + c.from-n.result + 1) * (c.from-2.result + 1 + c.from-seats_too.result) ≤ 2 ^ 65 * 2 ^ 19
product c =
    let high : n_of c.of-shape.result.order ≤ 2 ^ most_order = pow_mono c.of-shape.result.order_in_range.1 in
    let small = reset_small c.of-shape.result.order c.args.seats c.of-shape.result.order_in_range.1 c.requires.seats.1 in
    mul-le (c.from.result + c.from-n.result + 1) (c.from-2.result + 1 + c.from-seats_too.result) (2 ^ 65) (2 ^ 19) (omega (arith, high))
    (omega (arith, small))

pub overflow_mul-limit-2 : goal.overflow_mul-limit-2
overflow_mul-limit-2 c = omega (arith, product c)

pub overflow_add-limit-2 : goal.overflow_add-limit-2
overflow_add-limit-2 c = omega (arith, product c)

pub overflow_add-limit-3 : goal.overflow_add-limit-3
overflow_add-limit-3 c = omega (arith, product c)
