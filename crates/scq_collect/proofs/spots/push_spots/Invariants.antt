use Rattle.std.proofs.Common.{◌≡◌, ◌++◌, List, take}
use Rattle.std.specs.Prelude.{flat_map}
use Rattle.std.specs.List.{filter}
use Rattle.scq_collect.specs.Exports.{PartAnswer, AreLaid, is_in, plain}
use Rattle.scq_collect.proofs.spots.push_spots.Given as goal

-- those of the blocks so far that stand in the span were added
abbrev pub invariant-each : goal.invariant-each
invariant-each l = (answers : List PartAnswer) (laid : AreLaid answers l.blocks)
    → plain l.spots.items ≡ plain l.fn.spots.items ++ filter (is_in l.span) (flat_map (λ group. group) (take l.block-index laid.groups))
