use Rattle.std.proofs.Common.{List, take}
use Rattle.scq_collect.specs.Exports.{PartAnswer, AreLaid, IsMadeOf}
use Rattle.scq_collect.proofs.stretches.stretch_of.Given as goal

-- the stretch of the spans so far
abbrev pub invariant-each : goal.invariant-each
invariant-each l = (answers : List PartAnswer) → AreLaid answers l.given.blocks.now
    → IsMadeOf l.given.topics.now answers (take l.span-index l.spans) l.stretch
