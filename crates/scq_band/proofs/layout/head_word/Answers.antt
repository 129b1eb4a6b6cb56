use Rattle.std.proofs.Common.{refl, arith}
use Rattle.scq_core.specs.Exports.{head_of}
use Rattle.scq_band.proofs.Layouts.{from_tail}
use Rattle.scq_band.proofs.layout.head_word.Goals as goal

pub returns : goal.returns
returns c k r is = let there = from_tail k r (head_of r) refl in omega (arith, is, there)
