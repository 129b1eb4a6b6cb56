-- A take of a topic that found nothing.
use Rattle.std.proofs.Common.{ap, suc, ◌<◌, length, ℕ}
use Rattle.scq_queue.specs.Exports.{PassStanding, FoundEmpty}
use Rattle.scq_passes.specs.Exports.{TookNothing, HasEmptied}
use Rattle.scq_passes.proofs.PassLemmas.{found-past}
use Rattle.scq_passes.proofs.Sweeps.{found-now, found-takes}
use Rattle.scq_passes.proofs.Vain.{vain-none}

module _ {B : Type 0} where
  pub found-nothing : (topic head : ℕ) (p q : PassStanding B) → suc topic < length p.numbers → FoundEmpty topic head p q
      → HasEmptied topic p q × TookNothing p q
  found-nothing topic head p q low found =
      let calls = ap (λ (x : PassStanding B). x.calls) found.pass in (
        record {
          past = found-past topic head p q low found;
          found = found-now topic p q calls;
          vain = vain-none topic p q calls;
          last = record { before = p.calls; calls = calls };
        },
        found-takes topic p q calls,
      )
