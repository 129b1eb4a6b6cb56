use Rattle.std.proofs.Common.{map, take}
use Rattle.scq_collect.specs.Exports.{without_way, AreLaid, members_of}
use Rattle.scq_collect.proofs.laid.blocks_of.Given as goal

-- the blocks of the lists so far
abbrev pub invariant-lists : goal.invariant-lists
invariant-lists l = AreLaid (map without_way (members_of (take l.list-index l.lists))) l.blocks.items
