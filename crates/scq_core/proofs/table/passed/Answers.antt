use Rattle.std.proofs.Common.{◌≡◌, ℕ, ◌∙◌, ap}
use Rattle.scq_word.specs.declared.entry.Entry.{Entry}
use Rattle.scq_word.specs.Exports.{slots_of, cycle_of, word_of, entry_in}
use Rattle.scq_core.proofs.Packing.{passed_moved, passed_marked}
use Rattle.scq_core.proofs.table.passed.Goals as goal
use Rattle.scq_core.proofs.table.passed.Goals.{in-None, in-Some}

pub pack-requires-clause-cycle : goal.pack-requires-clause-cycle
pack-requires-clause-cycle c =
    elim c.match-entry.branch [
      | in-None w ↦ rw (ap (λ (x : Entry). x.cycle) w.left-is, w.cycle_of.ensures) c.requires.fits
      | in-Some w ↦ rw (ap (λ (x : Entry). x.cycle) w.left-is) c.unpack-entry.ensures.cycle
    ]

pub returns : goal.returns
returns c k order_is =
    let word : c.pack.result ≡ word_of k.order c.match-entry.left = rw order_is at c.pack.ensures.word in
    let read : c.unpack-entry.result ≡ entry_in k.order c.args.found = rw order_is at c.unpack-entry.ensures.entry in
    word ∙ elim c.match-entry.branch [
      | in-None w ↦
          passed_moved k c.args.ticket c.args.found w.cycle_of.result c.unpack-entry.result c.match-entry.left read w.in-None.is
          (w.cycle_of.ensures ∙ ap (λ (order : ℕ). cycle_of (slots_of order) c.args.ticket) order_is) w.left-is
      | in-Some w ↦
          passed_marked k c.args.ticket c.args.found w.in-Some.field-0 c.unpack-entry.result c.match-entry.left read w.in-Some.is w.left-is
    ]
