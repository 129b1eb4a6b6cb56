-- Each try so far was interrupted and appended nothing.
use Rattle.std.proofs.Common.{◌≡◌, ◌≤◌}
use Rattle.std.specs.Io.KnownBytes.{Keeps}
use Rattle.scq_outside.proofs.uninterrupted.write_uninterrupted.Given as goal

abbrev pub invariant-tries : goal.invariant-tries
invariant-tries g l = record {
  kept : Keeps (g.W.Write.contents l.initial.writer.device) (g.W.Write.contents l.writer.device);
  settled : l.writer.settled ≡ l.initial.writer.settled;
  cause : l.writer.cause ≡ l.initial.writer.cause;
  interrupted : l._try ≤ l.writer.interrupted;
}
