use Rattle.std.proofs.Common.{◌≡◌, take}
use Rattle.std.specs.Prelude.{flat_map}
use Rattle.scq_collect.specs.Exports.{reply_line, answer_of_whole}
use Rattle.scq_collect.proofs.text.output.Given as goal

-- the lines of the answers so far
abbrev pub invariant-loop-whole : goal.invariant-loop-whole
invariant-loop-whole l = l.text.items ≡ flat_map (λ a. reply_line l.topics (answer_of_whole a)) (take l.whole-index l.wholes)
