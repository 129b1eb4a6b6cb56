-- No bytes are no parts.
use Rattle.scq_frames.proofs.BatchLemmas.{are-none, none-in}
use Rattle.scq_frames.proofs.batch.Batch.clear.Goals as goal

pub invariant_of-self : goal.invariant_of-self
invariant_of-self c = are-none c.self.inside.file c.clear.new.self.items c.clear.ensures.items

pub returns : goal.returns
returns c = none-in c.clear.new.self.items c.clear.ensures.items
