use Rattle.std.proofs.Common.{◌≡◌, ◌++◌, take}
use Rattle.scq_judge.specs.Exports.{name_text}
use Rattle.scq_judge.proofs.telling.add_name.Given as goal

abbrev pub invariant-loop-byte : goal.invariant-loop-byte
invariant-loop-byte l = l.text.items ≡ l.initial.text.items ++ name_text (take l.byte-index l.name)
