use Rattle.std.proofs.Common.{◌∙◌, arith, inr, refl}
use Rattle.scq_outside.proofs.uninterrupted.write_uninterrupted.Goals as goal

-- as many tries were made as a count goes to
pub returns-clause-once : goal.returns-clause-once
returns-clause-once g c =
    let kept = c.keep.ensures.counts in
    inr (refl, kept.0 ∙ c.tries.invariant.settled, omega (arith, c.tries.invariant.interrupted, kept.1))
