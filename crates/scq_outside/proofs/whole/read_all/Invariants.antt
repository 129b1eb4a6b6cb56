use Rattle.std.proofs.Common.{◌≡◌, ◌≤◌, length, ◌+◌, ◌-◌}
use Rattle.scq_outside.specs.Exports.{Took}
use Rattle.scq_outside.proofs.whole.read_all.Given as goal

abbrev pub invariant-reads : goal.invariant-reads
invariant-reads g l = record {
  took : Took l.bytes.items (g.S.Source.left l.fn.source) (g.S.Source.left l.source);
  fits : length l.bytes.items ≤ l.fn.most;
  kept : g.S.Source.faults l.source ≡ g.S.Source.faults l.fn.source;
  not_ended : g.S.Source.ends l.source ≡ g.S.Source.ends l.fn.source;
}

abbrev pub decreases-reads : goal.decreases-reads
decreases-reads g l = l.fn.most + 1 - length l.bytes.items
