use Rattle.std.proofs.Common.{◌≡◌, length, take}
use Rattle.scq_collect.specs.Exports.{text_of_parts, plain}
use Rattle.scq_collect.proofs.joining.joined_len.Given as goal

-- the bytes of the parts so far are counted
abbrev pub invariant-parts : goal.invariant-parts
invariant-parts l = l.len ≡ length (text_of_parts (plain (take l.part-index l.parts)))
