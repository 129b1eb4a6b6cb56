use Rattle.std.proofs.Common.{◌≡◌, ◌++◌}
use Rattle.scq_core.specs.Exports.{machine_of}
use Rattle.scq_replay.specs.Exports.{entry_words}
use Rattle.scq_replay.proofs.printing.add_entries.Given as goal

abbrev pub invariant-loop-slot : goal.invariant-loop-slot
invariant-loop-slot l = l.text.items ≡ l.initial.text.items ++ entry_words ((machine_of l.state).cells.entries.word l.ring) l.slot
