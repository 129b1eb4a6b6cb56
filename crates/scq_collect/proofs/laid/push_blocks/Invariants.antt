use Rattle.std.proofs.Common.{◌++◌, List, take}
use Rattle.std.specs.Prelude.{flat_map}
use Rattle.std.specs.List.{All, AllZip}
use Rattle.scq_collect.specs.Exports.{IsCodable, HasAnswers, PartAnswer, AreLaid}
use Rattle.scq_collect.proofs.laid.push_blocks.Given as goal

-- the blocks so far were added
abbrev pub invariant-each : goal.invariant-each
invariant-each l = (members : List PartAnswer) (groups : List (List PartAnswer)) → AreLaid members l.fn.blocks.items → All (All IsCodable) groups
    → AllZip HasAnswers l.full groups
    → AreLaid (members ++ flat_map (λ group. group) (take l.block-index groups)) l.blocks.items
