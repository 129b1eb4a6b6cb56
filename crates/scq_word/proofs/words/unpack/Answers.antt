-- What was read is the entry of the word by its definition; the rest are that entry's laws.
use Rattle.std.proofs.Common.{◌≡◌, ◌+◌, ◌-◌, ◌/◌, ◌^◌, ◌∙◌, sym, ap, arith}
use Rattle.std.specs.Int.Bits.{bit_and}
use Rattle.scq_word.specs.Exports.{word_of}
use Rattle.scq_word.proofs.EntryLemmas.{read_masked, shifted, masked, word_of-entry_in, entry_of_own, cycle_in_fits}
use Rattle.scq_word.specs.declared.entry.Entry.{Entry}
use Rattle.scq_word.proofs.words.unpack.Goals as goal

pub returns-clause-entry : goal.returns-clause-entry
returns-clause-entry c =
    let s = c.args.shape in
    read_masked s.order c.args.word (c.args.word / 2 ^ s.bits) (bit_and c.args.word s.mark) c.unpacked_index.result
    (shifted s.order s.bits c.args.word s.bits_are) (masked s.order s.bits s.mark c.args.word s.bits_are s.mark_is) c.unpacked_index.ensures

pub returns-clause-packed : goal.returns-clause-packed
returns-clause-packed c = ap (λ (e : Entry). word_of c.args.shape.order e) (returns-clause-entry c) ∙ word_of-entry_in c.args.shape.order c.args.word

pub returns-clause-cycle : goal.returns-clause-cycle
returns-clause-cycle c =
    let sum : (62 - c.args.shape.order) + c.args.shape.order ≡ 62 = omega arith in
    omega (
      arith,
      ap (λ (e : Entry). e.cycle) (returns-clause-entry c),
      cycle_in_fits c.args.shape.order (62 - c.args.shape.order) c.args.word sum c.ranges.word.fits,
    )

pub returns-clause-index : goal.returns-clause-index
returns-clause-index c x is =
    entry_of_own c.args.shape.order c.args.word c.requires x (sym (ap (λ (e : Entry). e.index) (returns-clause-entry c)) ∙ is)
