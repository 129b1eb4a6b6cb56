use Rattle.std.proofs.Common.{◌≡◌, take}
use Rattle.scq_collect.specs.Exports.{pieces_bytes}
use Rattle.scq_service.specs.Exports.{written_with}
use Rattle.scq_service.proofs.writing.write_pieces.Given as goal

-- the pieces so far are written
abbrev pub invariant-loop-piece : goal.invariant-loop-piece
invariant-loop-piece g l = record {
  written : g.K.Sink.written l.sink ≡ written_with (g.K.Sink.written l.fn.sink) (pieces_bytes (take l.piece-index l.pieces));
  kept : g.K.Sink.faults l.sink ≡ g.K.Sink.faults l.fn.sink;
}
