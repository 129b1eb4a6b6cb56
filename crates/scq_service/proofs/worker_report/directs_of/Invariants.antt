use Rattle.std.proofs.Common.{◌≡◌, ◌*◌, ◌≤◌, take}
use Rattle.std.specs.Prelude.{sum_by}
use Rattle.scq_service.specs.Exports.{directs_in}
use Rattle.scq_service.proofs.worker_report.directs_of.Given as goal

-- the sum of the lists so far, each of which adds less than 2 ^ 64
abbrev pub invariant-lists : goal.invariant-lists
invariant-lists l = record {
  directs : l.sum ≡ sum_by directs_in (take l.list-index l.lists);
  small : l.sum ≤ l.list-index * 18446744073709551615;
}
