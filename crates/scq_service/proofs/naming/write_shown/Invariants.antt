use Rattle.std.proofs.Common.{◌≡◌, take}
use Rattle.scq_service.specs.Exports.{shown, written_with}
use Rattle.scq_service.proofs.naming.write_shown.Given as goal

-- the bytes so far are written
abbrev pub invariant-loop-byte : goal.invariant-loop-byte
invariant-loop-byte g l = record {
  written : g.K.Sink.written l.sink ≡ written_with (g.K.Sink.written l.fn.sink) (shown (take l.byte-index l.text));
  kept : g.K.Sink.faults l.sink ≡ g.K.Sink.faults l.fn.sink;
}
