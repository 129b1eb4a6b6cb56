use Rattle.std.proofs.Common.{refl, arith}
use Rattle.scq_c.specs.Exports.{OfSlotGiveBack}
use Rattle.scq_c.proofs.Rows.{none_went, read_next, all_done, stopped_at}
use Rattle.scq_c.proofs.many.give_back_each.Goals as goal

pub loop-k-init : goal.loop-k-init
loop-k-init c = none_went OfSlotGiveBack c.args.slots.now c.args.port.now

pub loop-k-preserved : goal.loop-k-preserved
loop-k-preserved c =
    read_next OfSlotGiveBack c.loop-k.k c.give_back_into-answer.result c.args.slots.now c.args.port.now c.loop-k.port c.give_back_into-answer.new.port _ c.loop-k.invariant c.loop-k-test.true
    (let ok = c.if-answer-ne-OK.false in omega (arith, ok)) (record { told_is = refl; given = c.give_back_into-answer.ensures })

pub returns-then-answer-ne-OK : goal.returns-then-answer-ne-OK
returns-then-answer-ne-OK c =
    stopped_at OfSlotGiveBack c.loop-k.k c.give_back_into-answer.result c.args.slots.now c.args.slots.now c.args.port.now c.loop-k.port c.give_back_into-answer.new.port _ _ c.loop-k.invariant c.loop-k-test.true
    (let no = c.if-answer-ne-OK.true in omega (arith, no)) (record { told_is = refl; given = c.give_back_into-answer.ensures })

pub returns : goal.returns
returns c =
    all_done OfSlotGiveBack c.loop-k.k c.args.slots.now c.args.slots.now c.args.port.now c.loop-k.port c.loop-k.invariant (let past = c.loop-k-test.false in omega (arith, past))
