use Rattle.std.proofs.Common.{arith, sym, ◌∙◌, ap}
use Rattle.scq_word.specs.declared.setup.Setup.{Setup}
use Rattle.scq_core.specs.Exports.{tail_of, entry_of}
use Rattle.scq_band.specs.Exports.{at}
use Rattle.scq_band.proofs.EntryOffsets.{entry_offset_by}
use Rattle.scq_band.proofs.layout.slot_word.Goals as goal

pub returns : goal.returns
returns c k r is there =
    let offset = entry_offset_by c.args.setup.now.order c.args.slot c.saturating_sub.result c.column_bits-rows.result c.from.result c.from-2.result
    (omega (arith, c.saturating_sub.ensures, c.args.setup.now.order_in_range.1)) (omega (arith, c.column_bits-rows.ensures.few)) c.saturating_sub.ensures c.column_bits-rows.ensures.bits c.from.ensures c.from-2.ensures in
    c.entry_word.ensures c.args.setup.now r c.args.slot (there ∙ sym (ap (λ (s : Setup). at s (tail_of r)) is)) offset
    ∙ ap (λ (s : Setup). at s (entry_of r c.args.slot)) is
