use Rattle.std.proofs.Common.{inr, refl}
use Rattle.scq_passes.proofs.Results.{err-then}
use Rattle.scq_stages.proofs.worker.Worker.move_on.Goals as goal

-- what it redacted is the same value
pub returns-then-redact_in-clause-back : goal.returns-then-redact_in-clause-back
returns-then-redact_in-clause-back g c =
    let same = c.redact_in.ensures.same in
    err-then c.send_on.result _ _ (λ l came. (2, inr refl, came)) (rw (same.0, same.1) at c.send_on.ensures.back)
