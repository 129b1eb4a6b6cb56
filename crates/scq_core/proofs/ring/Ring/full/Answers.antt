use Rattle.std.proofs.Common.{◌≡◌, ◌<◌, length, get_or, ◌∙◌}
use Rattle.scq_core.proofs.Filling.{filled_more}
use Rattle.scq_core.proofs.ring.Ring.full.Goals as goal

pub loop-index-preserved : goal.loop-index-preserved
loop-index-preserved c =
    let item = c.content-item.result in
    let items = c.deref-content-items.ensures.value in
    let is : item ≡ get_or c.args.opening.now.items c.loop-index.index item = rw items at c.content-item.is in
    let low : c.loop-index.index < length c.args.opening.now.items = rw items at c.loop-index-test.true in
    filled_more c.args.setup.now c.args.opening.now.items c.loop-index.index c.loop-index.slots.items c.fill.new.slots.items c.in_ok-copy.copy item
    c.loop-index.invariant low (c.in_ok-copy.ensures ∙ c.bytes.ensures) is c.fill.ensures
