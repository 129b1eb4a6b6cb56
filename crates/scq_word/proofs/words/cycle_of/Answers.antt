use Rattle.std.proofs.Common.{refl}
use Rattle.scq_word.specs.Exports.{cycle_of}
use Rattle.scq_word.proofs.EntryLemmas.{slots_of-pow}
use Rattle.scq_word.proofs.words.cycle_of.Goals as goal

pub returns : goal.returns
unfolding cycle_of
returns c = rw (c.args.shape.bits_are, slots_of-pow c.args.shape.order) refl
