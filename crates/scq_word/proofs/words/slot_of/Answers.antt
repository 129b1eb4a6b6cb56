-- The rest is the ticket below the mark, and its row and column are read off by a mask and a shift.
use Rattle.std.proofs.Common.{◌≡◌, ◌+◌, ◌-◌, ◌*◌, ◌/◌, ◌%◌, ◌^◌, ℕ}
use Rattle.std.specs.Int.Bits.{bit_and}
use Rattle.std.proofs.lemmas.Nat.{and_mask}
use Rattle.scq_word.specs.Exports.{slots_of, slot_of}
use Rattle.scq_word.proofs.EntryLemmas.{masked}
use Rattle.scq_word.proofs.TicketLemmas.{slot_of-masked, slot_of_small}
use Rattle.scq_word.proofs.words.slot_of.Goals as goal

slot_by : (order bits column_bits row_mask mark t : ℕ) → bits ≡ order + 1 → column_bits ≡ bits - 3 → row_mask ≡ 2 ^ (bits - 3) - 1 → mark ≡ 2 ^ bits - 1
    → bit_and (bit_and t mark) row_mask * 8 + bit_and t mark / 2 ^ column_bits ≡ slot_of order t
slot_by order bits column_bits row_mask mark t bits_are columns_are rows_are mark_is =
    rw (masked order bits mark t bits_are mark_is, columns_are, rows_are, bits_are, and_mask (t % slots_of order) (order + 1 - 3)) (slot_of-masked order t)

pub returns-clause-slot : goal.returns-clause-slot
returns-clause-slot c =
    let s = c.args.shape in
    slot_by s.order s.bits s.column_bits s.row_mask s.mark c.args.ticket s.bits_are s.columns_are s.rows_are s.mark_is

pub returns-clause-small : goal.returns-clause-small
returns-clause-small c = rw (returns-clause-slot c) (slot_of_small c.args.shape.order c.args.ticket)
