use Rattle.std.proofs.Common.{◌∙◌, List, ℕ, ◌++◌, add-one, append_assoc, sym, ap}
use Rattle.std.specs.Prelude.{codes, decimal}
use Rattle.scq_core.specs.Exports.{machine_of}
use Rattle.scq_replay.specs.Exports.{entry_words}
use Rattle.scq_replay.proofs.printing.add_entries.Goals as goal

pub loop-slot-preserved : goal.loop-slot-preserved
loop-slot-preserved c =
    let word = (machine_of c.args.state.now).cells.entries.word c.args.ring in
    let slot = c.loop-slot.slot in
    let old = c.args.text.now.items in
    let words = entry_words word slot in
    let digits = decimal (word slot) in
    c.in_ok-add_number.ensures
    ∙ ap (λ (n : ℕ). c.loop-slot.text.items ++ codes " " ++ decimal n) c.entry.ensures.word
    ∙ ap (λ (text : List ℕ). text ++ codes " " ++ digits) c.loop-slot.invariant
    ∙ ap (λ (text : List ℕ). text ++ digits) (append_assoc old words (codes " "))
    ∙ append_assoc old (words ++ codes " ") digits
    ∙ ap (λ (n : ℕ). old ++ entry_words word n) (sym (add-one slot))
