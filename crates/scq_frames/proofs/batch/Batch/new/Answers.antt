-- No bytes are no parts.
use Rattle.scq_frames.proofs.BatchLemmas.{are-none, none-in}
use Rattle.scq_frames.proofs.batch.Batch.new.Goals as goal

pub invariant_of-result : goal.invariant_of-result
invariant_of-result c = are-none 0 c.new.result.items c.new.ensures.items

pub returns : goal.returns
returns c = none-in c.new.result.items c.new.ensures.items
