use Rattle.scq_band.specs.Exports.{AreRings}
use Rattle.scq_band.proofs.making.rings.Given as goal

abbrev pub invariant-loop-number : goal.invariant-loop-number
invariant-loop-number l = AreRings l.setup l.number l.rings.items
