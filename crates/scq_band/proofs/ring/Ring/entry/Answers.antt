use Rattle.std.proofs.Common.{◌∙◌}
use Rattle.scq_core.specs.Exports.{slot}
use Rattle.scq_band.proofs.EntryOffsets.{entry_offset-of_ticket}
use Rattle.scq_band.proofs.ring.Ring.entry.Goals as goal

pub returns : goal.returns
returns c k is =
    let ring = c.args.self.now in
    c.entry_word.ensures k ring.number (slot k c.args.ticket) is.tail
    (entry_offset-of_ticket k.order c.args.ticket c.from-2.result c.from.result ring.columns.bits (c.from-2.ensures ∙ is.mark) (c.from.ensures ∙ is.rows) is.columns)
