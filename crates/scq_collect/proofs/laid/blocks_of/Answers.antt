-- Each step adds those of the next list, up to the last.
use Rattle.std.proofs.Common.{arith, sym, subst, List}
use Rattle.std.proofs.lemmas.List.{take_all}
use Rattle.scq_collect.specs.declared.answered.Answered.{Answered}
use Rattle.scq_collect.specs.Exports.{without_way, AreLaid, members_of}
use Rattle.std.proofs.Common.{map}
use Rattle.scq_collect.proofs.LaidLaws.{laid-none, list-more}
use Rattle.scq_collect.proofs.laid.blocks_of.Goals as goal

pub lists-init : goal.lists-init
lists-init c = subst (AreLaid _) (sym c.new-blocks.ensures.items) laid-none

pub lists-preserved : goal.lists-preserved
lists-preserved c =
    list-more c.args.lists.now c.lists.list-index c.list-item.result c.push_blocks.new.blocks.items c.lists-test.true (sym c.list-item.is)
    (c.in_ok-push_blocks.ensures _ c.lists.invariant)

pub returns : goal.returns
returns c =
    subst (λ (ls : List (List Answered)). AreLaid (map without_way (members_of ls)) c.lists.blocks.items)
    (take_all c.lists.list-index c.args.lists.now (omega (arith, c.lists-test.false))) c.lists.invariant
