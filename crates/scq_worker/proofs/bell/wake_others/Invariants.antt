use Rattle.std.proofs.Common.{◌≡◌}
use Rattle.scq_worker.specs.Exports.{but_wakes, others_more}
use Rattle.scq_worker.proofs.bell.wake_others.Given as goal

-- nothing of the stand changes but whom it woke
abbrev pub invariant-workers : goal.invariant-workers
invariant-workers l = (but_wakes l.stand ≡ but_wakes l.fn.stand)
    × (l.stand.wakes ≡ others_more l.number l.worker l.fn.stand.wakes) × (l.number ≡ l.fn.stand.worker)
