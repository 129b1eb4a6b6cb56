-- Each try so far was interrupted and took nothing, and the buffer keeps its length.
use Rattle.std.proofs.Common.{◌≡◌, ◌≤◌, length}
use Rattle.std.specs.Io.KnownBytes.{Keeps}
use Rattle.scq_outside.proofs.uninterrupted.read_uninterrupted.Given as goal

abbrev pub invariant-tries : goal.invariant-tries
invariant-tries g l = record {
  long : length l.into ≡ length l.initial.into;
  kept : Keeps (g.R.Read.remaining l.initial.reader.device) (g.R.Read.remaining l.reader.device);
  settled : l.reader.settled ≡ l.initial.reader.settled;
  cause : l.reader.cause ≡ l.initial.reader.cause;
  interrupted : l._try ≤ l.reader.interrupted;
}
