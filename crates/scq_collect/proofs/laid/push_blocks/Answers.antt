-- Each step adds the next block, up to the last.
use Rattle.std.proofs.Common.{arith, sym, subst, List}
use Rattle.std.proofs.lemmas.List.{append-nil}
use Rattle.scq_collect.specs.Exports.{PartAnswer, AreLaid}
use Rattle.scq_collect.proofs.LaidLaws.{group-all, group-more}
use Rattle.scq_collect.proofs.laid.push_blocks.Goals as goal

pub each-init : goal.each-init
each-init c = λ members groups laid fits all. subst (λ (l : List PartAnswer). AreLaid l c.args.blocks.now.items) (sym (append-nil members)) laid

pub each-preserved : goal.each-preserved
each-preserved c = λ members groups laid fits all.
    group-more c.args.full.now groups c.each.block-index c.block-item.result members c.push_block.new.blocks.items
    c.each-test.true (sym c.block-item.is) all fits
    (λ own codable has. c.in_ok-push_block.ensures _ own (c.each.invariant members groups laid fits all) codable has)

pub returns : goal.returns
returns c = λ members groups laid fits all.
    group-all c.args.full.now groups c.each.block-index members c.each.blocks.items (omega (arith, c.each-test.false)) all
    (c.each.invariant members groups laid fits all)
