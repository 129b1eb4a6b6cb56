use Rattle.std.proofs.Common.{◌∙◌}
use Rattle.scq_word.proofs.EntryLemmas.{bit_or-mark_of}
use Rattle.scq_core.proofs.table.consumed.Goals as goal

pub returns : goal.returns
returns c = rw (c.from.ensures ∙ c.none.ensures, c.shape.ensures) (bit_or-mark_of c.args.setup.now.order c.args.found)
