use Rattle.std.proofs.Common.{◌≡◌, take}
use Rattle.scq_collect.specs.Exports.{text_of_parts, plain}
use Rattle.scq_collect.proofs.joining.joined_text.Given as goal

-- the texts of the parts so far
abbrev pub invariant-parts : goal.invariant-parts
invariant-parts l = l.text.items ≡ text_of_parts (plain (take l.part-index l.parts))
