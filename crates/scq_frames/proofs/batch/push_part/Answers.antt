-- What is added is the part's bytes.
use Rattle.scq_frames.specs.Exports.{part_of_view}
use Rattle.scq_frames.proofs.BatchLemmas.{part-pushed}
use Rattle.scq_frames.proofs.batch.push_part.Goals as goal

pub returns-clause-pushed : goal.returns-clause-pushed
returns-clause-pushed c =
    part-pushed c.args.bytes.now.items c.reserve.new.self.items c.push_bytes.new.to.items c.push_bytes-2.new.to.items c.write_head.new.into
    (part_of_view c.args.view) c.reserve.ensures.items c.write_head.ensures c.push_bytes.ensures.pushed c.push_bytes-2.ensures.pushed
