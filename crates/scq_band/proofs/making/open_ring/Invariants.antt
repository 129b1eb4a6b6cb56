use Rattle.std.proofs.Common.{◌+◌}
use Rattle.scq_band.specs.Exports.{WordsAreOpened}
use Rattle.scq_band.proofs.making.open_ring.Given as goal

abbrev pub invariant-loop-slot : goal.invariant-loop-slot
invariant-loop-slot l = WordsAreOpened l.state.setup l.words.items l.ring (3 + l.slot)
