use Rattle.std.proofs.Common.{◌≡◌}
use Rattle.scq_band.specs.Exports.{first_numbers}
use Rattle.scq_band.proofs.making.first_numbers.Given as goal

abbrev pub invariant-loop-ring : goal.invariant-loop-ring
invariant-loop-ring l = l.numbers.items ≡ first_numbers l.setup l.ring
