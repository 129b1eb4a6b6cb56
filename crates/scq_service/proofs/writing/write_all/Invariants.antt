use Rattle.std.proofs.Common.{length, take, ◌-◌, ◌≡◌, ◌≤◌}
use Rattle.scq_service.specs.Exports.{written_with}
use Rattle.scq_service.proofs.writing.write_all.Given as goal

-- what was written so far is a front of the bytes
abbrev pub invariant-loop-done : goal.invariant-loop-done
invariant-loop-done g l = record {
  within : l.done ≤ length l.bytes;
  written : g.K.Sink.written l.sink ≡ written_with (g.K.Sink.written l.fn.sink) (take l.done l.bytes);
  kept : g.K.Sink.faults l.sink ≡ g.K.Sink.faults l.fn.sink;
}

abbrev pub decreases-loop-done : goal.decreases-loop-done
decreases-loop-done g l = length l.bytes - l.done
