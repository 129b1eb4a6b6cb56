-- Each step adds those of the next block, up to the last.
use Rattle.std.proofs.Common.{arith}
use Rattle.scq_collect.specs.Exports.{plain}
use Rattle.scq_collect.proofs.LaidLaws.{spots-all, spots-more}
use Rattle.scq_collect.proofs.spots.push_spots.Goals as goal

pub each-preserved : goal.each-preserved
each-preserved c = λ answers laid.
    spots-more answers c.args.blocks.now laid c.args.span.now c.each.block-index _ (plain c.args.spots.now.items)
    (plain c.each.spots.items) (plain c.push_spots_of.new.spots.items) c.each-test.true c.in_ok-push_spots_of.ensures
    (c.each.invariant answers laid)

pub returns : goal.returns
returns c = λ answers laid.
    spots-all answers c.args.blocks.now laid c.args.span.now c.each.block-index (plain c.args.spots.now.items) (plain c.each.spots.items)
    (omega (arith, c.each-test.false)) (c.each.invariant answers laid)
