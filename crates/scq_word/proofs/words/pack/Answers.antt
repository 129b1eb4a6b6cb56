-- The sum is the word by its definition, and no part of it is above the whole, which fits.
use Rattle.std.proofs.Common.{◌≡◌, ◌+◌, ◌∙◌, Bool, true, false, refl, arith}
use Rattle.scq_word.specs.Exports.{safe_bit}
use Rattle.scq_word.proofs.EntryLemmas.{packed_sum, mark_slots, word_of_small, entry_in-word_of}
use Rattle.scq_word.proofs.words.pack.Goals as goal
use mir.Val.{bool_byte}

one_bit : (b : Bool) → bool_byte b ≡ safe_bit b
one_bit true = refl
one_bit false = refl

pub returns-clause-word : goal.returns-clause-word
returns-clause-word c =
    let s = c.args.shape in
    packed_sum s.order c.args.entry (s.mark + 1) c.from-safe.result c.packed_index-index.result
    (mark_slots s.order s.bits s.mark s.bits_are s.mark_is) (c.from-safe.ensures ∙ one_bit c.args.entry.safe) c.packed_index-index.ensures.bits

pub overflow_add-result-2 : goal.overflow_add-result-2
overflow_add-result-2 c =
    omega (arith, returns-clause-word c, word_of_small c.args.shape.order c.args.entry c.requires.cycle c.requires.index)

pub overflow_add-result : goal.overflow_add-result
overflow_add-result c =
    omega (arith, returns-clause-word c, word_of_small c.args.shape.order c.args.entry c.requires.cycle c.requires.index)

pub overflow_mul-result-2 : goal.overflow_mul-result-2
overflow_mul-result-2 c =
    omega (arith, returns-clause-word c, word_of_small c.args.shape.order c.args.entry c.requires.cycle c.requires.index)

pub returns-clause-unpacked : goal.returns-clause-unpacked
returns-clause-unpacked c = rw (returns-clause-word c) (entry_in-word_of c.args.shape.order c.args.entry c.requires.index)
