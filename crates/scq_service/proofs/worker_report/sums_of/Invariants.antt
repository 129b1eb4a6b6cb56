use Rattle.std.proofs.Common.{◌≡◌, ◌*◌, ◌≤◌, take}
use Rattle.std.specs.Prelude.{sum_by}
use Rattle.scq_service.proofs.worker_report.sums_of.Given as goal

-- the sums of the workers so far, each of which adds less than 2 ^ 64
abbrev pub invariant-workers : goal.invariant-workers
invariant-workers l = record {
  sent : l.sums.sent ≡ sum_by (λ c. c.sent) (take l.worker-index l.counts);
  taken : l.sums.taken ≡ sum_by (λ c. c.taken) (take l.worker-index l.counts);
  sent_small : l.sums.sent ≤ l.worker-index * 18446744073709551615;
  taken_small : l.sums.taken ≤ l.worker-index * 18446744073709551615;
}
