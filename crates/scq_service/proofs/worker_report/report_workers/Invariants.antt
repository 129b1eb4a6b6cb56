use Rattle.std.proofs.Common.{◌≡◌, take}
use Rattle.std.specs.List.{zip}
use Rattle.scq_service.specs.Exports.{worker_lines, written_with}
use Rattle.scq_service.proofs.worker_report.report_workers.Given as goal

-- the lines of the workers so far are written
abbrev pub invariant-workers : goal.invariant-workers
invariant-workers g l = record {
  lines : g.K.Sink.written l.sink ≡ written_with (g.K.Sink.written l.fn.sink) (worker_lines 1 (take l.at (zip l.counts l.lists)));
  kept : g.K.Sink.faults l.sink ≡ g.K.Sink.faults l.fn.sink;
}
