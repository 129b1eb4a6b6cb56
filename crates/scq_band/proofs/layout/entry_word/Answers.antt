use Rattle.std.proofs.Common.{refl, arith}
use Rattle.scq_core.specs.Exports.{entry_of}
use Rattle.scq_band.proofs.Layouts.{from_tail}
use Rattle.scq_band.proofs.layout.entry_word.Goals as goal

pub returns : goal.returns
returns c k r s is offset = let there = from_tail k r (entry_of r s) refl in omega (arith, is, offset, there)
