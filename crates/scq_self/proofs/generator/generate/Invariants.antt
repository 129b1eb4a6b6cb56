use Rattle.std.proofs.Common.{◌≡◌, ◌<◌, ◌^◌}
use Rattle.scq_self.specs.Exports.{generated, number_after}
use Rattle.scq_self.proofs.generator.generate.Given as goal

-- the lines so far, and the number of the last of them
abbrev pub invariant-loop-line : goal.invariant-loop-line
invariant-loop-line l = record {
  text : l.text.items ≡ generated l.fn.seed l.line;
  number : l.x ≡ number_after l.fn.seed l.line;
  small : l.x < 2 ^ 31;
}
