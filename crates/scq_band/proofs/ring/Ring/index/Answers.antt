use Rattle.std.proofs.Common.{◌∙◌}
use Rattle.scq_word.specs.Exports.{index_in}
use Rattle.scq_band.proofs.RingWords.{low_bits}
use Rattle.scq_band.proofs.ring.Ring.index.Goals as goal

pub returns : goal.returns
unfolding index_in
returns c k is = low_bits k c.args.entry c.from.result (c.from.ensures ∙ is.mark)
